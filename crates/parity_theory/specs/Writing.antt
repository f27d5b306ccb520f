-- A parity rule written out as clauses: one clause for each setting of its switches that breaks it.
use Rattle.std.specs.Prelude.{ℕ, zero, suc, Bool, true, false, not, List, [], ◌∷◌, ◌++◌, map, length, filter}
use Rattle.rules.specs.declared.literals.Literal.{Literal}
use Rattle.rules.specs.declared.kinds.Side.{Side}
use Rattle.rules.specs.Constraints.{xor, same, is_odd}

-- one more switch, in front: first off, then on
abbrev pub off_then_on : List (List Bool) → List (List Bool)
off_then_on ss = map (λ s. false ∷ s) ss ++ map (λ s. true ∷ s) ss

-- all settings of n switches, the earlier before the later
abbrev pub settings : ℕ → List (List Bool)
settings zero = [] ∷ []
settings (suc n) = off_then_on (settings n)

-- an odd number of the values is on
abbrev pub odd_number : List Bool → Bool
odd_number [] = false
odd_number (b ∷ bs) = xor b (odd_number bs)

-- the values break a parity rule of the side
abbrev pub off_side : Side → List Bool → Bool
off_side side bs = not (same (is_odd side) (odd_number bs))

-- the clause on vs that is broken where they have the values bs, in the order of vs
abbrev pub against : List ℕ → List Bool → List Literal
against [] bs = []
against (v ∷ vs) [] = []
against (v ∷ vs) (b ∷ bs) = record { switch = v; on = not b } ∷ against vs bs

-- the clauses of the parity rule on vs: the settings that break it from the earliest on, literals in the order of vs
abbrev pub written_out : List ℕ → Side → List (List Literal)
written_out vs side = map (against vs) (filter (off_side side) (settings (length vs)))
