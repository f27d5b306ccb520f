use Rattle.std.proofs.Common.{◌≡◌, map, take, vec_items, vec_len, vec_capacity}
use Rattle.rules.specs.Views.{row_constraint}
use Rattle.parity_theory.specs.Reducing.{as_rule}
use Rattle.parity.specs.Views.{solved_row}
use Rattle.parity.proofs.reduction.write_rows.Given as goal

abbrev pub invariant-loop-row : goal.invariant-loop-row
invariant-loop-row l =
    (map row_constraint (vec_items l.rows) ≡ map as_rule (map solved_row (take l.row-index l.solved)))
    × (vec_len l.rows ≡ l.row-index)
    × (vec_capacity l.rows ≡ vec_capacity l.initial.rows)
