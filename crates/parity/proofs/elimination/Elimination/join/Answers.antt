use Rattle.std.proofs.Common.{◌≡◌, suc, ◌<◌, length, get_or, ap, arith}
use Rattle.parity_theory.specs.Reducing.{row, without}
use Rattle.parity.specs.Views.{solved_row}
use Rattle.parity.proofs.Turns.{changed_more, unchanged_more}
use Rattle.parity.proofs.elimination.Elimination.join.Goals as goal

pub loop-row-preserved : goal.loop-row-preserved
loop-row-preserved c =
    let xs = c.as_mut_slice-row-items.result.now in
    let ys = c.loop-row.row-items in
    let i = c.loop-row.row-index in
    let size : length ys ≡ length xs = omega arith in
    let here : i < length ys = omega arith in
    let f = without (solved_row c.args.new) in
    let old = get_or ys i c.row-item.result in (
      changed_more solved_row f xs ys i old _ here size c.loop-row.invariant.0 c.loop-row.invariant.1 (ap (get_or ys i) c.row-item.is) (ap (row (suc old.index)) c.clear.ensures),
      unchanged_more solved_row f xs ys i old _ here size c.loop-row.invariant.1,
    )
