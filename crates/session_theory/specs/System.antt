-- The system on which a search works, and that it says the same as the rules.
use Rattle.std.specs.Prelude.{◌≡◌, ℕ, ◌↔◌, List, ◌++◌, map, Some, None, Option}
use Rattle.rules.specs.declared.literals.Literal.{Literal}
use Rattle.rules.specs.Settings.{Setting}
use Rattle.rules.specs.Constraints.{Constraint, clause, Keeps}
use Rattle.rules.specs.Rows.{free, tally, Reduced}
use Rattle.parity_theory.specs.Recovering.{clauses}
use Rattle.parity_theory.specs.Reducing.{rows, freedom}
use Rattle.parity_theory.specs.Claims.{LawfulRules, NoneKeeps}

-- the clauses, then the rows; absent where there are no rows because the parity rules contradict each other
abbrev pub with_rows : List (List Literal) → Option (List Constraint) → Option (List Constraint)
with_rows cs None = None
with_rows cs (Some rs) = Some (map clause cs ++ rs)

-- the clauses among the rules, then the rows of the parity rules that stand
abbrev pub system : ℕ → List Constraint → Option (List Constraint)
system n rules = with_rows (clauses rules) (rows n rules)

-- a system that is reduced, that the same settings keep as the rules, and that has as many free switches
pub record Fits (n : ℕ) (rules system : List Constraint) : Type 0 where
  pub reduced : Reduced n system
  pub same_settings : (s : Setting) → Keeps rules s ↔ Keeps system s
  pub free_switches : freedom n rules ≡ Some (tally (free system) n)

-- the system of lawful rules fits them
pub record SystemsRight : Type 0 where
  pub fits : (n : ℕ) (rules rs : List Constraint) → LawfulRules n rules → system n rules ≡ Some rs → Fits n rules rs
  -- there is none exactly where no setting keeps the parity rules that stand
  pub contradiction : (n : ℕ) (rules : List Constraint) → LawfulRules n rules → (system n rules ≡ None) ↔ NoneKeeps n rules
