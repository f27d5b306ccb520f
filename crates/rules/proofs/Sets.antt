-- Equations of rules have one proof.
use Rattle.std.proofs.Common.{List}
use mathlib.Core.List.{is_set}
use native.Mathlib.Nat.{ℕ_set}
use base.Stored.{Coded-set}
use Rattle.rules.specs.contracts.literals.Literal.{the_row as literal_row}
use Rattle.rules.specs.contracts.kinds.Side.{the_row as side_row}
use Rattle.rules.specs.Constraints.{Constraint, constraint_is_set}

pub constraint_set : IsSet Constraint
constraint_set = constraint_is_set (is_set (Coded-set literal_row.coded)) (is_set ℕ_set) (Coded-set side_row.coded)

pub constraints_set : IsSet (List Constraint)
constraints_set = is_set constraint_set
