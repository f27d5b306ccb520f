use Rattle.std.proofs.Common.{◌≡◌, map, take}
use Rattle.rules.specs.Entries.{named_switch}
use Rattle.rules.specs.Views.{switches_of}
use Rattle.rules.proofs.building.parity_of.Given as goal

abbrev pub invariant-loop-entry : goal.invariant-loop-entry
invariant-loop-entry l =
    (l.parity.width ≡ l.entry-index) × ((switches_of l.parity ≡ map named_switch (take l.entry-index l.entries)) × (l.parity.side ≡ l.fn.side))
