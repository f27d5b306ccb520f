use Rattle.std.proofs.Common.{◌≡◌, map, take}
use Rattle.rules.specs.Constraints.{switch_of}
use Rattle.rules.specs.Views.{switches_of}
use Rattle.parity.proofs.conversion.parity_of.Given as goal

abbrev pub invariant-loop-literal : goal.invariant-loop-literal
invariant-loop-literal l =
    (switches_of l.parity ≡ map switch_of (take l.literal-index l.literals))
    × (l.parity.width ≡ l.literal-index)
    × (l.parity.side ≡ l.initial.parity.side)
