use Rattle.std.proofs.Common.{map, Some, vec_capacity, sym, ap, ◌∙◌, arith}
use Rattle.std.proofs.lemmas.List.{length-map}
use Rattle.rules.specs.Constraints.{clause}
use Rattle.rules.specs.Views.{constraint, row_constraint}
use Rattle.parity_theory.specs.Recovering.{clauses as clauses_of}
use Rattle.parity.specs.Reductions.{standing_rules}
use Rattle.parity.proofs.Room.{rows_few}
use Rattle.session.proofs.Restarts.{system_made, system_reduced}
use Rattle.session.proofs.restarting.restart.Goals as goal

pub fill_rows-requires : goal.fill_rows-requires
fill_rows-requires c =
    let s = c.args.rules.now in
    let few = rows_few s.switches (standing_rules s) (map row_constraint c.args.rows.now) c.requires.reduced in
    let same = c.into_system-system.ensures ∙ ap (λ x. x.system) c.replace-old.ensures.value in
    let room = ap (λ x. vec_capacity x.rows) same in
    omega (arith, few, length-map c.args.rows.now row_constraint, s.narrow, c.requires.rows, room)

pub invariant_of-system : goal.invariant_of-system
invariant_of-system c =
    let s = c.args.rules.now in
    let cs = c.fill_clauses.ensures.clauses ∙ ap (λ l. map clause (clauses_of (map constraint l))) c.as_slice.ensures.value in
    let rows_same = c.requires.reduced ∙ ap (λ l. Some (map row_constraint l)) (sym c.fill_rows.ensures.rows) in
    let made = system_made s.switches (standing_rules s) _ _ rows_same cs in
    record { few = s.narrow; reduced = ∣ system_reduced s.switches (standing_rules s) _ s.sound made ∣₁ }
