-- Settings of a list of switches by their place among all of them, and the one that breaks a clause.
use Rattle.std.specs.Prelude.{ℕ, ◌+◌, ◌*◌, ◌%◌, Bool, true, cond, not, List, [], ◌∷◌, length, Some, None, Option, ◌==◌, count_ones, slice_set}
use Rattle.rules.specs.declared.literals.Literal.{Literal}
use Rattle.rules.specs.declared.kinds.Side.{Side}
use Rattle.rules.specs.Constraints.{Constraint, clause, parity, same, is_odd}
use Rattle.rules.specs.Rows.{bit}

-- the place of the values: the first counts 1, each further one twice the one before
abbrev pub place : List Bool → ℕ
place [] = 0
place (b ∷ bs) = 2 * place bs + bit b

-- the value of the switch that breaks the clause's first literal on it
abbrev pub breaking_value : List Literal → ℕ → Option Bool
breaking_value [] v = None
breaking_value (l ∷ ls) v = cond (l.switch == v) (Some (not l.on)) (breaking_value ls v)

-- the place of values with one more in front, absent where either is
abbrev pub with_value : Option Bool → Option ℕ → Option ℕ
with_value None p = None
with_value (Some b) None = None
with_value (Some b) (Some p) = Some (2 * p + bit b)

-- the place of the values of vs that break the clause, absent where it lacks one of them
abbrev pub values_place : List Literal → List ℕ → Option ℕ
values_place ls [] = Some 0
values_place ls (v ∷ vs) = with_value (breaking_value ls v) (values_place ls vs)

-- the same, absent for a clause on other switches and for a parity rule
abbrev pub breaking_place : List ℕ → Constraint → Option ℕ
breaking_place vs (clause ls) = cond (length ls == length vs) (values_place ls vs) None
breaking_place vs (parity ws side) = None

-- the marks with one more place marked, if there is one
abbrev pub marked : List Bool → Option ℕ → List Bool
marked marks None = marks
marked marks (Some k) = slice_set marks k true

-- the places of the settings that break one of the rules
abbrev pub marked_by : List ℕ → List Constraint → List Bool → List Bool
marked_by vs [] marks = marks
marked_by vs (r ∷ rules) marks = marked_by vs rules (marked marks (breaking_place vs r))

-- the setting at the place breaks a parity rule of the side
abbrev pub off_side_at : Side → ℕ → Bool
off_side_at side k = not (same (is_odd side) (count_ones k % 2 == 1))
