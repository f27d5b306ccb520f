use Rattle.std.proofs.Common.{◌≡◌, map, drop}
use Rattle.parity_theory.specs.Reducing.{cleared}
use Rattle.parity.specs.Views.{equation_in, solved_row}
use Rattle.parity.proofs.equations.Equation.clear_all.Given as goal

-- the rows that are left would make the same of the equation as it stands
abbrev pub invariant-loop-row : goal.invariant-loop-row
invariant-loop-row l = cleared (map solved_row (drop l.row-index l.rows)) (equation_in l.self) ≡ cleared (map solved_row l.rows) (equation_in l.initial.self)
