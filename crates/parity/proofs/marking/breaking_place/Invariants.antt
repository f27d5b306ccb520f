use Rattle.std.proofs.Common.{◌≡◌, map, reverse, Some}
use Rattle.parity.specs.Places.{values_place}
use Rattle.parity.proofs.marking.breaking_place.Given as goal

-- the place of the values of the switches that are passed, from the last on
abbrev pub invariant-loop-switch : goal.invariant-loop-switch
invariant-loop-switch l = values_place l.literals (reverse (map (λ v. v.now) l.yielded)) ≡ Some l.place
