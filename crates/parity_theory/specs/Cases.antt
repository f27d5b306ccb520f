-- Small cases, computed: rules over three switches, with their rows and the number of free switches.
use Rattle.std.specs.Prelude.{◌≡◌, ℕ, false, List, [], ◌∷◌, map, take, Some, None, Option}
use Rattle.rules.specs.declared.literals.Literal.{Literal}
use Rattle.rules.specs.declared.kinds.Side.TheVariants.{Even, Odd}
use Rattle.rules.specs.Constraints.{Constraint, clause, parity, positive, Each}
use Rattle.parity_theory.specs.Writing.{written_out}
use Rattle.parity_theory.specs.Reducing.{rows, freedom}

-- the literal -v
abbrev pub negative : ℕ → Literal
negative v = record { switch = v; on = false }

-- the clauses of the odd parity rule on 1, 2 and 3
abbrev pub four_clauses : List (List Literal)
four_clauses =
    (positive 1 ∷ positive 2 ∷ positive 3 ∷ [])
    ∷ (positive 1 ∷ negative 2 ∷ negative 3 ∷ [])
    ∷ (negative 1 ∷ positive 2 ∷ negative 3 ∷ [])
    ∷ (negative 1 ∷ negative 2 ∷ positive 3 ∷ [])
    ∷ []

-- rules, the rows that they are to have, and how many switches are to be free
pub record Case : Type 0 where
  pub rules : List Constraint
  pub reduced : Option (List Constraint)
  pub free : Option ℕ

abbrev pub case : List Constraint → Option (List Constraint) → Option ℕ → Case
case rules reduced free = record { rules = rules; reduced = reduced; free = free }

abbrev pub cases : List Case
cases =
    -- a parity rule, and its clauses; with one clause missing, nothing is recovered
    case (parity (1 ∷ 2 ∷ 3 ∷ []) Odd ∷ []) (Some (parity (3 ∷ 2 ∷ 1 ∷ []) Odd ∷ [])) (Some 2)
    ∷ case (map clause four_clauses) (Some (parity (3 ∷ 2 ∷ 1 ∷ []) Odd ∷ [])) (Some 2)
    ∷ case (map clause (take 3 four_clauses)) (Some []) (Some 3)
    -- the dependent 3 is cleared out of the second rule, the dependent 2 out of the first row
    ∷ case (parity (1 ∷ 3 ∷ []) Odd ∷ parity (2 ∷ 3 ∷ []) Even ∷ []) (Some (parity (3 ∷ 1 ∷ []) Odd ∷ parity (2 ∷ 1 ∷ []) Odd ∷ [])) (Some 1)
    ∷ case (parity (1 ∷ 2 ∷ 3 ∷ []) Odd ∷ parity (1 ∷ 2 ∷ []) Even ∷ []) (Some (parity (3 ∷ []) Odd ∷ parity (2 ∷ 1 ∷ []) Even ∷ [])) (Some 1)
    -- the third rule follows from the others, or contradicts them
    ∷ case (parity (1 ∷ 2 ∷ []) Even ∷ parity (2 ∷ 3 ∷ []) Even ∷ parity (1 ∷ 3 ∷ []) Even ∷ []) (Some (parity (2 ∷ 1 ∷ []) Even ∷ parity (3 ∷ 1 ∷ []) Even ∷ [])) (Some 1)
    ∷ case (parity (1 ∷ 2 ∷ []) Even ∷ parity (2 ∷ 3 ∷ []) Even ∷ parity (1 ∷ 3 ∷ []) Odd ∷ []) None None
    -- clauses of one literal are parity rules
    ∷ case (clause (positive 2 ∷ []) ∷ clause (negative 2 ∷ []) ∷ []) None None
    ∷ []

-- each case is what the definitions compute
pub record CasesHold : Type 0 where
  pub written : written_out (1 ∷ 2 ∷ 3 ∷ []) Odd ≡ four_clauses
  pub computed : Each (λ c. (rows 3 c.rules ≡ c.reduced) × (freedom 3 c.rules ≡ c.free)) cases
