use Rattle.parity_theory.proofs.Results.{reduction_right}
use Rattle.parity_theory.proofs.reduction_right.Goals as goal

pub returns : goal.returns
returns c = reduction_right
