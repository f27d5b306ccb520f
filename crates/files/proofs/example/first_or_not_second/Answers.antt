use Rattle.std.proofs.Common.{refl}
use Rattle.rules.specs.First.{first_of, some_below}
use Rattle.files.specs.Files.{records}
use Rattle.files.proofs.example.first_or_not_second.Goals as goal

pub returns : goal.returns
unfolding records first_of some_below
returns c = record { means = refl; gap = refl }
