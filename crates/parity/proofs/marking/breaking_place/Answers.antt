use Rattle.std.proofs.Common.{◌≡◌, ℕ, ◌<◌, ◌≤◌, List, map, length, get_or, reverse, Some, None, ap, ◌∙◌, arith, rules}
use denote.Ref.{Bor}
use Rattle.std.proofs.lemmas.List.{length-map, length-reverse, get_or_read}
use Rattle.std.proofs.lemmas.Iterator.Adapters.{YieldsList-from_rev_slice}
use Rattle.std.proofs.lemmas.Iterator.Consumers.{YieldsList-turn}
use Rattle.rules.specs.declared.literals.Literal.{Literal}
use Rattle.parity.specs.Places.{breaking_value, values_place}
use Rattle.parity.proofs.Values.{place_found, place_absent, small_place, byte_bit}
use Rattle.parity.proofs.Places.{bit_small}
use Rattle.parity.proofs.marking.breaking_place.Goals as goal

-- the place of the switches that are passed is an index of the marks
small : (ls : List Literal) (vs : List ℕ) (passed : List (Bor ℕ)) (p : ℕ) → length vs ≤ 5 → length passed < length (reverse vs) → values_place ls (reverse (map (λ v. v.now) passed)) ≡ Some p → p < 32
small ls vs passed p few l h =
    small_place ls (reverse (map (λ v. v.now) passed)) p (omega (arith, length-reverse vs, length-reverse (map (λ (v : Bor ℕ). v.now) passed), length-map passed (λ (v : Bor ℕ). v.now))) h

pub overflow_mul-place : goal.overflow_mul-place
overflow_mul-place c =
    let turn = YieldsList-turn (YieldsList-from_rev_slice c.args.switches.now (cc)) c.loop-switch.yielded _ c.loop-switch.yielded_by _ _ _ c.in-Some.is c.next.ensures.steps in
    omega (arith, small c.args.literals.now c.args.switches.now c.loop-switch.yielded c.loop-switch.place c.requires turn.0 c.loop-switch.invariant)

pub overflow_add-place : goal.overflow_add-place
overflow_add-place c =
    let turn = YieldsList-turn (YieldsList-from_rev_slice c.args.switches.now (cc)) c.loop-switch.yielded _ c.loop-switch.yielded_by _ _ _ c.in-Some.is c.next.ensures.steps in
    omega (arith, small c.args.literals.now c.args.switches.now c.loop-switch.yielded c.loop-switch.place c.requires turn.0 c.loop-switch.invariant, c.from.ensures, byte_bit c.in_ok-breaking_value.field-0, bit_small c.in_ok-breaking_value.field-0)

pub returns-in_err-breaking_value : goal.returns-in_err-breaking_value
returns-in_err-breaking_value c =
    let ls = c.args.literals.now in
    let vs = c.args.switches.now in
    let i = length c.loop-switch.yielded in
    let turn = YieldsList-turn (YieldsList-from_rev_slice vs (cc)) c.loop-switch.yielded _ c.loop-switch.yielded_by _ _ _ c.in-Some.is c.next.ensures.steps in
    let read : c.in-Some.switch.now ≡ get_or (reverse vs) i 0 = get_or_read (reverse vs) i _ turn.0 turn.1 0 in
    let lacks : None ≡ breaking_value ls c.in-Some.switch.now = search rules in
    let none : c.from_residual.result ≡ None = search rules in
    none ∙ place_found ls vs None c.if-literals-switches.false (place_absent ls vs i (omega (arith, turn.0, length-reverse vs)) (lacks ∙ ap (breaking_value ls) read))
