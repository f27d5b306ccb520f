use Rattle.std.proofs.Common.{map, vec_items, sym, ap, ◌∙◌, true≢false, arith, rules}
use Rattle.rules.specs.First.{every}
use Rattle.rules.specs.Lawful.{lawful}
use Rattle.rules.specs.Views.{constraint, row_constraint}
use Rattle.parity_theory.specs.Recovering.{parities}
use Rattle.parity_theory.specs.Reducing.{reduce, as_rule}
use Rattle.parity.specs.Views.{solved_row}
use Rattle.parity.specs.Reductions.{standing_rules}
use Rattle.parity.proofs.Told.{lawful_wider, told_rows, told_few, told_right}
use Rattle.parity.proofs.reduction.Reduction.reduce.Goals as goal

pub eliminate-outcome-requires-clause-rules : goal.eliminate-outcome-requires-clause-rules
eliminate-outcome-requires-clause-rules c =
    let s = c.args.standing.now in
    ap (λ l. every (lawful 256) (map constraint l)) c.as_slice.ensures.value ∙ lawful_wider s.switches 256 s.narrow (standing_rules s) s.sound

pub write_rows-requires-clause-few : goal.write_rows-requires-clause-few
write_rows-requires-clause-few c =
    let s = c.args.standing.now in
    let e = c.eliminate-outcome.new.self in
    let done = c.eliminate-outcome.ensures ∙ ap (λ l. reduce (parities 256 (map constraint l))) c.as_slice.ensures.value in
    let few = told_few s.switches s.narrow (standing_rules s) s.sound c.eliminate-outcome.result (vec_items e.rows) done (sym c.is_ok.ensures.value ∙ c.if-is_ok.true) in
    omega (arith, few, s.narrow, c.as_slice-then-is_ok.ensures.len, e.rows.ok.0)

pub invariant_of-self-then-is_ok : goal.invariant_of-self-then-is_ok
invariant_of-self-then-is_ok c =
    let s = c.args.standing.now in
    let e = c.eliminate-outcome.new.self in
    let done = c.eliminate-outcome.ensures ∙ ap (λ l. reduce (parities 256 (map constraint l))) c.as_slice.ensures.value in
    let few = told_few s.switches s.narrow (standing_rules s) s.sound c.eliminate-outcome.result (vec_items e.rows) done (sym c.is_ok.ensures.value ∙ c.if-is_ok.true) in
    record { room = search rules; fewer = omega (arith, few, c.write_rows.ensures.len, c.as_slice-then-is_ok.ensures.len, e.rows.ok.0) }

pub returns-then-is_ok-clause-rows : goal.returns-then-is_ok-clause-rows
returns-then-is_ok-clause-rows c =
    let s = c.args.standing.now in
    let done = c.eliminate-outcome.ensures ∙ ap (λ l. reduce (parities 256 (map constraint l))) c.as_slice.ensures.value in
    let written = c.write_rows.ensures.rows ∙ ap (λ l. map as_rule (map solved_row l)) c.as_slice-then-is_ok.ensures.value in
    rw c.put_outcome.ensures (told_rows s.switches s.narrow (standing_rules s) s.sound c.eliminate-outcome.result (vec_items c.eliminate-outcome.new.self.rows) (map row_constraint (vec_items c.write_rows.new.rows)) done (λ _. written))

pub returns-then-is_ok-clause-right : goal.returns-then-is_ok-clause-right
returns-then-is_ok-clause-right c =
    let s = c.args.standing.now in
    told_right s.switches (standing_rules s) s.sound _ (returns-then-is_ok-clause-rows c)

pub returns-else-is_ok-clause-rows : goal.returns-else-is_ok-clause-rows
returns-else-is_ok-clause-rows c =
    let s = c.args.standing.now in
    let done = c.eliminate-outcome.ensures ∙ ap (λ l. reduce (parities 256 (map constraint l))) c.as_slice.ensures.value in
    rw c.put_outcome.ensures (told_rows s.switches s.narrow (standing_rules s) s.sound c.eliminate-outcome.result (vec_items c.eliminate-outcome.new.self.rows) (map row_constraint (vec_items c.clear.new.self)) done (λ f. absurd (true≢false (sym f ∙ sym c.is_ok.ensures.value ∙ c.if-is_ok.false))))

pub returns-else-is_ok-clause-right : goal.returns-else-is_ok-clause-right
returns-else-is_ok-clause-right c =
    let s = c.args.standing.now in
    told_right s.switches (standing_rules s) s.sound _ (returns-else-is_ok-clause-rows c)
