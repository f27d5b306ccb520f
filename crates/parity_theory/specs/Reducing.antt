-- The reduction of equations to rows, and the number of free switches.
use Rattle.std.specs.Prelude.{ℕ, zero, suc, ◌-◌, Bool, true, false, cond, List, [], ◌∷◌, ◌++◌, map, length, Some, None, Option}
use Rattle.rules.specs.Constraints.{Constraint, parity, side_when}
use Rattle.parity_theory.specs.Equations.{has, Equation, plus}
use Rattle.parity_theory.specs.Recovering.{parities}

-- an equation with its dependent, the highest switch of its set
pub record Row : Type 0 where
  pub dependent : ℕ
  pub equation : Equation

-- a row, from its dependent and its equation
abbrev pub row : ℕ → Equation → Row
row d e = record { dependent = d; equation = e }

-- the highest switch of a set with one switch put in front, from that of the set
abbrev pub shifted : Bool → Option ℕ → Option ℕ
shifted b (Some v) = Some (suc v)
shifted true None = Some 1
shifted false None = None

-- the highest switch of a set
abbrev pub highest : List Bool → Option ℕ
highest [] = None
highest (b ∷ set) = shifted b (highest set)

-- the equation without the dependent of the row
abbrev pub cleared_by : Row → Equation → Equation
cleared_by r e = cond (has e.members r.dependent) (plus e r.equation) e

-- the equation without the dependents of the rows
abbrev pub cleared : List Row → Equation → Equation
cleared [] e = e
cleared (r ∷ rs) e = cleared rs (cleared_by r e)

-- the row q without the dependent of r
abbrev pub without : Row → Row → Row
without r q = row q.dependent (cleared_by r q.equation)

-- the rows with the row r, last
abbrev pub joined : List Row → Row → List Row
joined rs r = map (without r) rs ++ (r ∷ [])

-- the rows with an equation that has none of their dependents, given its highest switch; absent on contradiction
abbrev pub placed : List Row → Equation → Option ℕ → Option (List Row)
placed rs e None = cond e.odd None (Some rs)
placed rs e (Some d) = Some (joined rs (row d e))

-- the rows with one more equation
abbrev pub extended : Option (List Row) → Equation → Option (List Row)
extended None e = None
extended (Some rs) e = let x = cleared rs e in placed rs x (highest x.members)

-- the rows with further equations, one after the other
abbrev pub reduce_from : Option (List Row) → List Equation → Option (List Row)
reduce_from rs [] = rs
reduce_from rs (e ∷ es) = reduce_from (extended rs e) es

-- the rows of the equations, in the order in which they were made; absent where the equations contradict each other
abbrev pub reduce : List Equation → Option (List Row)
reduce es = reduce_from (Some []) es

-- the switches of the set from v down
abbrev pub falling : List Bool → ℕ → List ℕ
falling set zero = []
falling set (suc v) = cond (has set (suc v)) (suc v ∷ falling set v) (falling set v)

-- a row as a rule: its dependent, then its other switches from the highest down
abbrev pub as_rule : Row → Constraint
as_rule r = parity (r.dependent ∷ falling r.equation.members (r.dependent - 1)) (side_when r.equation.odd)

-- the rows as rules, where there are rows
abbrev pub as_rules : Option (List Row) → Option (List Constraint)
as_rules None = None
as_rules (Some rs) = Some (map as_rule rs)

-- the rows of the parity rules that stand; absent where they contradict each other
abbrev pub rows : ℕ → List Constraint → Option (List Constraint)
rows n rules = as_rules (reduce (parities n rules))

-- n less the number of rows, each of which has a dependent of its own; absent on contradiction
abbrev pub left_free : ℕ → Option (List Constraint) → Option ℕ
left_free n None = None
left_free n (Some rs) = Some (n - length rs)

-- the number of free switches
abbrev pub freedom : ℕ → List Constraint → Option ℕ
freedom n rules = left_free n (rows n rules)
