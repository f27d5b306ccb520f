use Rattle.std.proofs.Common.{map, vec_items, ap, ◌∙◌, sym, arith}
use Rattle.parity_theory.specs.Reducing.{cleared}
use Rattle.parity.specs.Views.{equation_in, solved_row}
use Rattle.parity.proofs.Room.{room_left}
use Rattle.parity.proofs.elimination.Elimination.take_in.Goals as goal

pub join-requires : goal.join-requires
join-requires c =
    let e = c.args.self.now in
    let rs = map solved_row (vec_items e.rows) in
    let left = c.clear_all.new.self in
    let is = c.clear_all.ensures ∙ ap (λ l. cleared (map solved_row l) (equation_in c.args.equation)) c.as_slice.ensures.value in
    omega (arith, room_left c.requires.0 (vec_items e.rows) (equation_in c.args.equation) (equation_in left) c.in-Some.index (sym c.requires.1) is c.in-Some.ensures.index c.in-Some.ensures.inside, e.rows.ok.0, e.room)
