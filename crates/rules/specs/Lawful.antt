-- Which rules are lawful over n switches.
use Rattle.std.specs.Prelude.{ℕ, ◌<◌, ◌≤◌, Bool, true, not, ◌&&◌, List, [], ◌∷◌, length, ◌==◌, ◌≢◌, nat_le, slice_index}
use Rattle.rules.specs.declared.kinds.Kind.{Kind}
use Rattle.rules.specs.declared.kinds.Kind.TheVariants.{Clause, Parity}
use Rattle.rules.specs.First.{every}
use Rattle.rules.specs.Settings.{Within}
use Rattle.rules.specs.Constraints.{Constraint, kind, switches}

-- the greatest width of a kind
abbrev pub widest : Kind → ℕ
widest Clause = 8
widest (Parity side) = 16

-- a rule of the kind may have the width: 1 to the greatest
abbrev pub width_fits : Kind → ℕ → Bool
width_fits k w = nat_le 1 w && nat_le w (widest k)

-- v is one of the switches 1 to n
abbrev pub inside : ℕ → ℕ → Bool
inside n v = nat_le 1 v && nat_le v n

-- v is none of vs
abbrev pub absent : ℕ → List ℕ → Bool
absent v [] = true
absent v (w ∷ ws) = not (v == w) && absent v ws

-- no switch comes twice
abbrev pub different : List ℕ → Bool
different [] = true
different (v ∷ vs) = absent v vs && different vs

-- a width of its kind, different switches, and all of them from 1 to n
abbrev pub lawful : ℕ → Constraint → Bool
lawful n r = width_fits (kind r) (length (switches r)) && (every (inside n) (switches r) && different (switches r))

-- the same, place by place
pub record Lawful (n : ℕ) (r : Constraint) : Type 0 where
  pub some : 1 ≤ length (switches r)
  pub few : length (switches r) ≤ widest (kind r)
  pub ranged : (i : ℕ) → i < length (switches r) → Within n (slice_index (switches r) i)
  pub apart : (i j : ℕ) → i < j → j < length (switches r) → slice_index (switches r) i ≢ slice_index (switches r) j
