use Rattle.parity_theory.proofs.Numbers.{odd_on_counts}
use Rattle.parity_theory.proofs.odd_on_counts.Goals as goal

pub returns : goal.returns
returns c = odd_on_counts
