-- The rules of a system, the clauses before the rows.
use Rattle.std.specs.Prelude.{List, ◌++◌, map}
use Rattle.rules.specs.declared.clauses.Clause.{Clause}
use Rattle.rules.specs.declared.parities.ParityRule.{ParityRule}
use Rattle.rules.specs.Constraints.{Constraint}
use Rattle.rules.specs.Views.{clause_constraint, row_constraint}

abbrev pub constraints : List Clause → List (ParityRule 256) → List Constraint
constraints clauses rows = map clause_constraint clauses ++ map row_constraint rows
