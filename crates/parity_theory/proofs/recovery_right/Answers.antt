use Rattle.parity_theory.proofs.Results.{recovery_right}
use Rattle.parity_theory.proofs.recovery_right.Goals as goal

pub returns : goal.returns
returns c = recovery_right
