-- Parity rules as equations: a set of switches, and whether an odd number of them is to be on.
use Rattle.std.specs.Prelude.{ℕ, zero, suc, Bool, true, false, not, ◌&&◌, List, [], ◌∷◌, map}
use Rattle.std.specs.List.{range_with_len}
use Rattle.rules.specs.declared.kinds.Side.{Side}
use Rattle.rules.specs.Settings.{Setting, setting}
use Rattle.rules.specs.Constraints.{xor, same, is_odd}
use Rattle.rules.specs.Lawful.{absent}

-- A set of switches is a list of Booleans, switch v at index v - 1; past its end it has none.
-- the set has the switch v
abbrev pub has : List Bool → ℕ → Bool
has set v = setting set v

-- the set of the switches vs, out of 1 to n
abbrev pub set_of : ℕ → List ℕ → List Bool
set_of n vs = map (λ v. not (absent v vs)) (range_with_len 1 n)

-- the switches that are in one of two sets and not in both
abbrev pub difference : List Bool → List Bool → List Bool
difference [] bv = bv
difference (a ∷ av) [] = a ∷ av
difference (a ∷ av) (b ∷ bv) = xor a b ∷ difference av bv

-- an odd number of the switches 1 to n is in the set and on
abbrev pub odd_in : ℕ → List Bool → Setting → Bool
odd_in zero set s = false
odd_in (suc n) set s = xor (has set (suc n) && s (suc n)) (odd_in n set s)

-- the set of its switches, and whether an odd number of them is to be on
pub record Equation : Type 0 where
  pub members : List Bool
  pub odd : Bool

-- the equation of the parity rule on vs
abbrev pub equation : ℕ → List ℕ → Side → Equation
equation n vs side = record { members = set_of n vs; odd = is_odd side }

-- the sum of two equations: what keeps both keeps it
abbrev pub plus : Equation → Equation → Equation
plus e x = record { members = difference e.members x.members; odd = xor e.odd x.odd }

-- s, on the switches 1 to n, satisfies the equation
abbrev pub satisfies : ℕ → Setting → Equation → Bool
satisfies n s e = same e.odd (odd_in n e.members s)

-- s satisfies each of the equations
abbrev pub satisfies_all : ℕ → Setting → List Equation → Bool
satisfies_all n s [] = true
satisfies_all n s (e ∷ es) = satisfies n s e && satisfies_all n s es

-- the same length, and the same value at each index
abbrev pub same_set : List Bool → List Bool → Bool
same_set [] [] = true
same_set [] (b ∷ bv) = false
same_set (a ∷ av) [] = false
same_set (a ∷ av) (b ∷ bv) = same a b && same_set av bv

-- the same set, and both odd or both even
abbrev pub same_equation : Equation → Equation → Bool
same_equation e x = same_set e.members x.members && same e.odd x.odd
