-- The clauses that the rules of a sheet are written as.
use Rattle.std.specs.Prelude.{Bool, false, not, List, [], ◌∷◌, length, nat_lt}
use Rattle.std.specs.List.{flat_map}
use Rattle.rules.specs.declared.literals.Literal.{Literal}
use Rattle.rules.specs.Constraints.{Constraint, clause, parity}
use Rattle.parity_theory.specs.Writing.{written_out}

-- a clause is itself, and a parity rule one clause for each setting of its switches that breaks it
abbrev pub expanded : Constraint → List (List Literal)
expanded (clause ls) = ls ∷ []
expanded (parity vs side) = written_out vs side

-- the clauses of all rules, in the order of the rules
abbrev pub clauses_of : List Constraint → List (List Literal)
clauses_of rules = flat_map expanded rules

-- a parity rule of more than five switches is not written out
abbrev pub is_wide : Constraint → Bool
is_wide (clause ls) = false
is_wide (parity vs side) = nat_lt 5 (length vs)

-- the rule can be written
abbrev pub is_narrow : Constraint → Bool
is_narrow r = not (is_wide r)
