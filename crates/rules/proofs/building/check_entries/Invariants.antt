use Rattle.std.proofs.Common.{◌≡◌, None}
use Rattle.rules.specs.First.{first_of}
use Rattle.rules.specs.Entries.{entry_misfit}
use Rattle.rules.proofs.building.check_entries.Given as goal

abbrev pub invariant-loop-i : goal.invariant-loop-i
invariant-loop-i l = first_of (entry_misfit l.kind l.n l.entries) l.i ≡ None
