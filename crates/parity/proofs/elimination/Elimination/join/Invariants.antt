use Rattle.std.proofs.Common.{◌≡◌, map, take, drop}
use Rattle.parity_theory.specs.Reducing.{without}
use Rattle.parity.specs.Views.{solved_row}
use Rattle.parity.proofs.elimination.Elimination.join.Given as goal

-- the rows before the index are cleared, the others as they were
abbrev pub invariant-loop-row : goal.invariant-loop-row
invariant-loop-row l =
    (map solved_row (take l.row-index l.row-items) ≡ map (without (solved_row l.new)) (map solved_row (take l.row-index l.initial.row-items)))
    × (drop l.row-index l.row-items ≡ drop l.row-index l.initial.row-items)
