-- The equations of the parity rules that stand, rule by rule.
use Rattle.std.specs.Prelude.{◌≡◌, cond, ◌&&◌, List, Some, None, Option}
use Rattle.rules.specs.declared.literals.Literal.{Literal}
use Rattle.rules.specs.Constraints.{Constraint, clause, parity}
use Rattle.parity_theory.specs.Equations.{Equation, equation}
use Rattle.parity_theory.specs.Recovering.{narrow, recovers, equation_of}
use Rattle.parity_theory.specs.Reducing.{Row, reduce}

-- the equation of a parity rule
abbrev pub named_by : Constraint → Option Equation
named_by (clause ls) = None
named_by (parity vs side) = Some (equation 256 vs side)

-- the equation of the parity rule that is recovered from the clauses cs, of which the rule is one
abbrev pub recovered_by : List (List Literal) → Constraint → Option Equation
recovered_by cs (clause ls) = cond (narrow ls && recovers cs ls) (Some (equation_of 256 ls)) None
recovered_by cs (parity vs side) = None

-- the rows are those of some equations
abbrev pub OfEquations : List Row → Type 0
OfEquations rows = (es : List Equation) × (Some rows ≡ reduce es)
