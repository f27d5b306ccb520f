use Rattle.std.proofs.Common.{◌≡◌, Bool, cond, true, false, [], ◌∷◌, ◌++◌, ◌+◌, map, length, take, Some, sym, ap, ◌∙◌, rules, arith}
use Rattle.std.proofs.lemmas.Grind.{common_steps}
use lib.Dec.{T}
use Rattle.std.proofs.lemmas.Result.{err_from_is_err_and}
use Rattle.std.proofs.lemmas.List.{map-id, take_more}
use Rattle.std.specs.Slice.Iter.{iter_rest}
use Rattle.std.specs.Iterator.Adapters.{filter_map_callee, chain_second}
use Rattle.std.proofs.lemmas.Iterator.{YieldsList-from_slice}
use Rattle.std.proofs.lemmas.Iterator.Consumers.{YieldsList-so_far, YieldsList-turn, YieldsList-end}
use Rattle.rules.specs.declared.rule.Rule.{Rule}
use Rattle.rules.specs.Lawful.{lawful}
use Rattle.rules.specs.Views.{constraint}
use Rattle.parity_theory.specs.Reducing.{reduce}
use Rattle.parity.specs.Views.{equation_in, solved_row, unless_contradiction}
use Rattle.parity.specs.States.{rows_so_far}
use Rattle.parity.proofs.Filtered.{serves_at}
use Rattle.parity.proofs.Gathered.{captured, all_equations, equations_come, all_reduced, one_taken, contradicted, each_lawful}
use Rattle.parity.proofs.elimination.Elimination.eliminate.Goals as goal

both_end : (a b : Bool) → T (cond (cond a true true) (cond b true true) false)
both_end true true = tt
both_end true false = tt
both_end false true = tt
both_end false false = tt

pub loop-equation-init : goal.loop-equation-init
loop-equation-init c =
    let into = c.into_iter-equation-iterator.ensures.into_iter_gives in
    let rules = c.args.rules.now in
    let law = each_lawful rules c.requires.rules in (
      (
        λ _. (tt, tt, serves_at (λ (r : Rule). lawful 256 (constraint r) ≡ true) _ _ (λ _. Unit {0}) (λ w x q a k. tt) (λ w x a l. l) (YieldsList-from_slice rules (cc)) law tt),
        λ _. (tt, tt, serves_at (λ (r : Rule). lawful 256 (constraint r) ≡ true) _ _ (λ w. captured w ≡ c.new-sorted.result) (λ w x q a k. search rules) (λ w x a l κ p g is b. l) (YieldsList-from_slice rules (cc)) law (ap (λ m. captured (filter_map_callee (chain_second m))) into ∙ ap (λ m. captured (filter_map_callee m)) c.chain-equation-items.ensures.second ∙ ap captured c.filter_map-recovered.ensures.closure)),
      ),
      both_end c.into_iter-equation-iterator.result.a_done c.into_iter-equation-iterator.result.b_done,
      ap (λ l. Some (map solved_row l)) c.clear.ensures.items,
    )

pub loop-equation-preserved : goal.loop-equation-preserved
loop-equation-preserved c = (search rules, search rules, c.in_ok-take_in.ensures ∙ one_taken c.loop-equation.yielded c.in-Some.equation (rows_so_far c.loop-equation.self) c.loop-equation.invariant.2)

pub returns-in_err-take_in : goal.returns-in_err-take_in
returns-in_err-take_in c =
    let items = c.chain-equation-items.ensures in
    let rules = c.args.rules.now in
    let all = all_equations rules in
    let passed = c.loop-equation.yielded in
    let x = c.in-Some.equation in
    let so_far = YieldsList-so_far (equations_come c.new-sorted.result rules c.new-sorted.ensures c.requires.rules c.into_iter-equation-iterator.ensures.into_iter_gives items.first items.second items.first_done items.second_done (ap iter_rest c.filter_map-named.ensures.source ∙ c.iter.ensures.rest) (ap iter_rest c.filter_map-recovered.ensures.source ∙ c.iter-2.ensures.rest) (ap captured c.filter_map-recovered.ensures.closure) (λ w x r q l k. search rules) (λ w x r q a l k. (search rules, grind (arith, common_steps, k)))) passed _ c.loop-equation.yielded_by in
    let turn = YieldsList-turn (equations_come c.new-sorted.result rules c.new-sorted.ensures c.requires.rules c.into_iter-equation-iterator.ensures.into_iter_gives items.first items.second items.first_done items.second_done (ap iter_rest c.filter_map-named.ensures.source ∙ c.iter.ensures.rest) (ap iter_rest c.filter_map-recovered.ensures.source ∙ c.iter-2.ensures.rest) (ap captured c.filter_map-recovered.ensures.closure) (λ w x r q l k. search rules) (λ w x r q a l k. (search rules, grind (arith, common_steps, k)))) passed _ c.loop-equation.yielded_by _ _ _ c.in-Some.is c.next.ensures.steps in
    let front = ap (λ l. l ++ (x ∷ [])) (sym (map-id passed) ∙ so_far) ∙ ap (λ y. take (length passed) all ++ (y ∷ [])) turn.1 ∙ sym (take_more all (length passed) x turn.0) in
    let exit = err_from_is_err_and c.from_residual.result c.from_residual.ensures.1 in
    ap (λ r. unless_contradiction r (rows_so_far c.take_in.new.self)) exit.1
    ∙ sym (contradicted all (passed ++ (x ∷ [])) (length passed + 1) front (sym (one_taken passed x (rows_so_far c.loop-equation.self) c.loop-equation.invariant.2) ∙ sym c.in_err-take_in.ensures))
    ∙ all_reduced rules

pub returns : goal.returns
returns c =
    let items = c.chain-equation-items.ensures in
    let rules = c.args.rules.now in
    let passed = c.loop-equation.yielded in
    let whole = YieldsList-end (equations_come c.new-sorted.result rules c.new-sorted.ensures c.requires.rules c.into_iter-equation-iterator.ensures.into_iter_gives items.first items.second items.first_done items.second_done (ap iter_rest c.filter_map-named.ensures.source ∙ c.iter.ensures.rest) (ap iter_rest c.filter_map-recovered.ensures.source ∙ c.iter-2.ensures.rest) (ap captured c.filter_map-recovered.ensures.closure) (λ w x r q l k. search rules) (λ w x r q a l k. (search rules, grind (arith, common_steps, k)))) passed _ c.loop-equation.yielded_by _ _ c.in-None.is c.next.ensures.steps in
    c.loop-equation.invariant.2 ∙ ap (λ l. reduce (map equation_in l)) (sym (map-id passed) ∙ whole.0) ∙ all_reduced rules
