use Rattle.std.proofs.Common.{◌-◌, map, vec_items}
use Rattle.rules.specs.Views.{constraint}
use Rattle.files.specs.Files.{file}
use Rattle.files.proofs.Walk.{Underway}
use Rattle.files.proofs.reading.read_faultless.Given as goal

abbrev pub invariant-records : goal.invariant-records
invariant-records g l = Underway g.G.Generation.format (file g.G.Generation.format l.bytes) l.records (map constraint (vec_items l.rules))

abbrev pub decreases-records : goal.decreases-records
decreases-records g l = 1025 - l.records.rules
