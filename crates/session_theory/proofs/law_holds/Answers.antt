use Rattle.session_theory.proofs.Laws.{law}
use Rattle.session_theory.proofs.law_holds.Goals as goal

pub returns : goal.returns
returns c = law
