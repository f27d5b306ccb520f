use Rattle.std.proofs.Common.{refl}
use Rattle.rules.specs.First.{first_of, some_below}
use Rattle.files.specs.Files.{records}
use Rattle.files.proofs.example.odd_of_three.Goals as goal

pub returns : goal.returns
unfolding records first_of some_below
returns c = record { means = refl; outside = refl }
