use Rattle.session_theory.proofs.Laws.{calls_lawful}
use Rattle.session_theory.proofs.calls_lawful.Goals as goal

pub returns : goal.returns
returns c = calls_lawful
