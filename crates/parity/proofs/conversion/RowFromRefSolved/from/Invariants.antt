use Rattle.std.proofs.Common.{◌≡◌, suc, ◌+◌, ◌≤◌, ◌∷◌, ◌++◌}
use Rattle.rules.specs.Views.{switches_of}
use Rattle.parity_theory.specs.Reducing.{falling}
use Rattle.parity.proofs.conversion.RowFromRefSolved.from.Given as goal

-- what is written, then the members below the index
abbrev pub invariant-loop-i : goal.invariant-loop-i
invariant-loop-i l =
    (l.row.width + l.i ≤ l.solved.index + 1)
    × (switches_of l.row ++ falling l.solved.equation.members l.i ≡ suc l.solved.index ∷ falling l.solved.equation.members l.solved.index)
    × (l.row.side ≡ l.initial.row.side)
