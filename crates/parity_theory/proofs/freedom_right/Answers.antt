use Rattle.parity_theory.proofs.Results.{freedom_right}
use Rattle.parity_theory.proofs.freedom_right.Goals as goal

pub returns : goal.returns
returns c = freedom_right
