use Rattle.std.proofs.Common.{◌-◌, List}
use Rattle.rules.specs.Constraints.{Constraint}
use Rattle.files.specs.Files.{file}
use Rattle.files.proofs.Walk.{Underway}
use Rattle.files.proofs.reading.check_file.Given as goal

abbrev pub invariant-records : goal.invariant-records
invariant-records g l = (before : List Constraint) × Underway g.G.Generation.format (file g.G.Generation.format l.bytes) l.records before

abbrev pub decreases-records : goal.decreases-records
decreases-records g l = 1025 - l.records.rules
