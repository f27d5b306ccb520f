use Rattle.std.proofs.Common.{◌≡◌, map, take}
use Rattle.rules.specs.Entries.{literal}
use Rattle.rules.specs.Views.{literals_of}
use Rattle.rules.proofs.building.clause_of.Given as goal

abbrev pub invariant-loop-entry : goal.invariant-loop-entry
invariant-loop-entry l = (l.clause.width ≡ l.entry-index) × (literals_of l.clause ≡ map literal (take l.entry-index l.entries))
