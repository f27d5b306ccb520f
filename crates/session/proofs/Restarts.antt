-- The system of the rules that stand, made of their clauses and rows.
use Rattle.std.proofs.Common.{◌≡◌, ℕ, List, ◌++◌, map, Some, sym, ap, ◌∙◌}
use Rattle.rules.specs.declared.clauses.Clause.{Clause}
use Rattle.rules.specs.declared.parities.ParityRule.{ParityRule}
use Rattle.rules.specs.Constraints.{Constraint, clause}
use Rattle.rules.specs.Rows.{Reduced}
use Rattle.rules.specs.Views.{clause_constraint, row_constraint}
use Rattle.parity_theory.specs.Recovering.{clauses}
use Rattle.parity_theory.specs.Reducing.{rows}
use Rattle.parity_theory.specs.Claims.{LawfulRules}
use Rattle.search.specs.Systems.{constraints}
use Rattle.session_theory.specs.System.{with_rows, system}
use Rattle.session_theory.proofs.Systems.{system_fits}

-- the system with these clauses and rows is that of the rules
pub system_made : (n : ℕ) (rules : List Constraint) (cs : List Clause) (rs : List (ParityRule 256)) → rows n rules ≡ Some (map row_constraint rs) → map clause_constraint cs ≡ map clause (clauses rules) → system n rules ≡ Some (constraints cs rs)
system_made n rules cs rs told same = ap (with_rows (clauses rules)) told ∙ ap (λ l. Some (l ++ map row_constraint rs)) (sym same)

pub system_reduced : (n : ℕ) (rules all : List Constraint) → LawfulRules n rules → system n rules ≡ Some all → Reduced n all
system_reduced n rules all law e = (system_fits n rules law all e).reduced
