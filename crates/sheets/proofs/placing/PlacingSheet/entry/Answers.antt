use Rattle.std.proofs.Common.{sym, ap, ◌∙◌, arith}
use Rattle.std.specs.Option.{option_map}
use Rattle.std.proofs.lemmas.Bool.{leb-true}
use Rattle.sheets.specs.Meaning.{told_entry}
use Rattle.sheets.specs.Piles.{shifted}
use Rattle.sheets.specs.Shifts.{told_entry_placed, told_inside}
use Rattle.sheets.proofs.placing.PlacingSheet.entry.Goals as goal

pub overflow_add-result : goal.overflow_add-result
overflow_add-result g c =
    let below = c.in_ok-with_room.field-0.now in
    let small = told_inside (g.S.Sheet.meaning below) c.args.i c.args.j c.in_ok-literal.literal (g.met.S.Sheet.lawful below) (sym c.in_ok-literal.ensures) in
    let here = c.in_ok-with_room.ensures in
    omega (arith, small, ap (λ s. (g.S.Sheet.meaning s).switches) here.1, leb-true _ _ here.0)

pub returns : goal.returns
returns g c =
    let m = g.S.Sheet.meaning in
    let here = c.in_ok-with_room.ensures in
    ap (option_map (shifted c.args.self.now.by)) (c.in_ok-literal.ensures ∙ ap (λ s. told_entry (m s) c.args.i c.args.j) here.1)
    ∙ sym (told_entry_placed (m c.args.self.now.below) c.args.self.now.by c.args.i c.args.j here.0)
