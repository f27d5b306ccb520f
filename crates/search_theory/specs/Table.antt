-- Searches of three switches, as one table.
use Rattle.std.specs.Prelude.{◌≡◌, ℕ, true, false, List, [], ◌∷◌, Some}
use Rattle.rules.specs.declared.kinds.Side.TheVariants.{Even, Odd}
use Rattle.rules.specs.Constraints.{Constraint, clause, parity, positive, Each}
use Rattle.search_theory.specs.Tries.{Course, found, nothing, due, negative}
use Rattle.search_theory.specs.Courses.{after, made}

-- a system, a budget of tries, the course after it and the tries that were made
pub record Case : Type 0 where
  pub system : List Constraint
  pub budget : ℕ
  pub course : Course
  pub tries : ℕ

-- the definitions compute that course and those tries
abbrev pub Computes : Case → Type 0
Computes c = (after 3 (Some c.system) c.budget ≡ c.course) × (made 3 (Some c.system) c.budget ≡ c.tries)

-- an odd number of the three is on
abbrev pub odd_three : List Constraint
odd_three = parity (3 ∷ 2 ∷ 1 ∷ []) Odd ∷ []

-- 2 and 3 are each unlike 1
abbrev pub unlike_one : List Constraint
unlike_one = parity (3 ∷ 1 ∷ []) Odd ∷ parity (2 ∷ 1 ∷ []) Odd ∷ []

-- 1 and 2 are alike, and the clauses rule out both values of 3
abbrev pub contradicting : List Constraint
contradicting =
    clause (positive 1 ∷ positive 2 ∷ positive 3 ∷ [])
    ∷ clause (positive 1 ∷ positive 2 ∷ negative 3 ∷ [])
    ∷ clause (negative 1 ∷ negative 2 ∷ positive 3 ∷ [])
    ∷ clause (negative 1 ∷ negative 2 ∷ negative 3 ∷ [])
    ∷ parity (2 ∷ 1 ∷ []) Even
    ∷ []

abbrev pub table : List Case
table =
    record { system = odd_three; budget = 1000; course = found (false ∷ false ∷ true ∷ []); tries = 2 }
    ∷ record { system = unlike_one; budget = 1000; course = found (false ∷ true ∷ true ∷ []); tries = 1 }
    ∷ record { system = contradicting; budget = 1; course = due (positive 1 ∷ []); tries = 1 }
    ∷ record { system = contradicting; budget = 2; course = nothing; tries = 2 }
    ∷ []

-- each case is what the definitions compute
abbrev pub TableComputed : Type 0
TableComputed = Each Computes table
