-- The parity rules that stand: those that are named, and those that clauses amount to.
-- A clause rules out one setting of its switches. Where clauses on exactly the same switches rule out every
-- setting that breaks a parity rule on them, that parity rule is recovered from the clauses.
use Rattle.std.specs.Prelude.{◌≡◌, ℕ, ◌≤◌, true, false, ◌⊎◌, List, map, length}
use Rattle.rules.specs.declared.kinds.Side.{Side}
use Rattle.rules.specs.Settings.{Setting}
use Rattle.rules.specs.Constraints.{Constraint, clause, parity, switch_of, some_kept, kept, SomeOf}
use Rattle.rules.specs.Lawful.{absent, lawful}

-- the rule is a clause on exactly the switches vs, and t breaks it
abbrev pub Breaks : Setting → List ℕ → Constraint → Type 0
Breaks t vs (clause ls) = ((v : ℕ) → absent v (map switch_of ls) ≡ absent v vs) × (some_kept t ls ≡ false)
Breaks t vs (parity ws side) = ⊥

-- each setting that breaks the parity rule breaks a clause on exactly its switches
abbrev pub Recovered : List Constraint → List ℕ → Side → Type 0
Recovered rules vs side = (t : Setting) → kept t (parity vs side) ≡ false → SomeOf (Breaks t vs) rules

-- a recovered parity rule on 1 to 5 of n switches
pub record IsRecovered (n : ℕ) (rules : List Constraint) (vs : List ℕ) (side : Side) : Type 0 where
  pub rule_lawful : lawful n (parity vs side) ≡ true
  pub few : length vs ≤ 5
  pub by_clauses : Recovered rules vs side

-- a parity rule stands where it is named, or where it is recovered from clauses of up to 5 literals
abbrev pub Stands : ℕ → List Constraint → List ℕ → Side → Type 0
Stands n rules vs side = SomeOf (λ r. r ≡ parity vs side) rules ⊎ IsRecovered n rules vs side

-- s keeps every parity rule that stands
abbrev pub KeepsParities : ℕ → List Constraint → Setting → Type 0
KeepsParities n rules s = (vs : List ℕ) (side : Side) → Stands n rules vs side → kept s (parity vs side) ≡ true
