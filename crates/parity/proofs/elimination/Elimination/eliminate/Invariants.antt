use Rattle.std.proofs.Common.{◌≡◌, map, Some}
use Rattle.parity_theory.specs.Reducing.{reduce}
use Rattle.parity.specs.Views.{equation_in}
use Rattle.parity.specs.States.{rows_so_far}
use Rattle.parity.proofs.elimination.Elimination.eliminate.Given as goal

-- the rows are those of the equations so far
abbrev pub invariant-loop-equation : goal.invariant-loop-equation
invariant-loop-equation l =
    goal.iterator-loop-equation.can_next l.equation-iterator
    × goal.iterator-loop-equation.is_finite l.equation-iterator
    × (Some (rows_so_far l.self) ≡ reduce (map equation_in l.yielded))
