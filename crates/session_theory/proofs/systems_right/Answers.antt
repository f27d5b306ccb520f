use Rattle.session_theory.proofs.Systems.{systems_right}
use Rattle.session_theory.proofs.systems_right.Goals as goal

pub returns : goal.returns
returns c = systems_right
