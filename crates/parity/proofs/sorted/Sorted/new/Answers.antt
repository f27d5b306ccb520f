use Rattle.std.proofs.Common.{◌≡◌, map, length, get_or, set, replicate, Some, None, sym, refl, ap, ◌∙◌, subst, arith, length-set}
use Rattle.std.specs.Slice.Iter.{iter_rest}
use Rattle.std.specs.Iterator.Adapters.{enumerate_source, enumerate_count, rev_source}
use Rattle.std.proofs.lemmas.List.{length-map, take_all}
use Rattle.rules.specs.Constraints.{clause}
use Rattle.rules.specs.Views.{constraint}
use Rattle.parity.specs.Buckets.{is_in, LinkedFrom}
use Rattle.parity.proofs.Turns.{last_of}
use Rattle.parity.proofs.Linking.{bucket_small, at_rule, its_bucket, linked_none, linked_past, linked_more}
use Rattle.parity.proofs.sorted.Sorted.new.Goals as goal

pub loop-i-init : goal.loop-i-init
loop-i-init c =
    let rules = c.args.rules.now in
    let size = length-map rules constraint in
    let its = c.into_iter-i-iterator.ensures.into_iter_gives in
    let source = ap (λ r. enumerate_source (rev_source r)) its ∙ ap enumerate_source c.rev-i-items.ensures.source ∙ c.enumerate.ensures.source in
    let all = ap iter_rest source ∙ c.iter.ensures.rest in (
      refl,
      refl,
      subst (λ n. LinkedFrom (map constraint rules) n (replicate 256 None) (replicate 2112 None)) (ap length (sym all)) (linked_none (map constraint rules) (length rules) (replicate 2112 None) (sym size) (omega arith)),
      ap (λ r. enumerate_count (rev_source r)) its ∙ ap enumerate_count c.rev-i-items.ensures.source ∙ c.enumerate.ensures.count,
      all ∙ sym (take_all _ rules (omega (arith, ap length all))),
      omega (arith, ap length all),
    )

pub loop-i-preserved-in_default : goal.loop-i-preserved-in_default
loop-i-preserved-in_default c =
    let rules = c.args.rules.now in
    let inv = c.loop-i.invariant in
    let st = rw c.in-Some.is at c.next.ensures.steps in
    let size = length-map rules constraint in
    let ls = iter_rest (enumerate_source (rev_source c.next.new.self)) in
    let last = last_of rules (iter_rest (enumerate_source (rev_source c.loop-i.i-iterator))) ls (length (iter_rest (enumerate_source (rev_source c.loop-i.i-iterator)))) c.in-Some.rule.now st.1.0 inv.4 inv.5 in
    let j = length ls in
    let read = at_rule rules j c.in-Some.rule.now last.here last.is ∙ ap constraint c.in_default.is in (
      inv.0,
      inv.1,
      linked_past (map constraint rules) _ j c.loop-i.first c.loop-i.next last.next (omega (arith, last.here)) inv.2 (λ b. ap (is_in b) read),
      st.0 ∙ inv.3,
      last.front,
      omega (arith, last.here),
    )

pub loop-i-preserved-in_default-bucket_of : goal.loop-i-preserved-in_default-bucket_of
loop-i-preserved-in_default-bucket_of c =
    let rules = c.args.rules.now in
    let inv = c.loop-i.invariant in
    let st = rw c.in-Some.is at c.next.ensures.steps in
    let size = length-map rules constraint in
    let ls = iter_rest (enumerate_source (rev_source c.next.new.self)) in
    let last = last_of rules (iter_rest (enumerate_source (rev_source c.loop-i.i-iterator))) ls (length (iter_rest (enumerate_source (rev_source c.loop-i.i-iterator)))) c.in-Some.rule.now st.1.0 inv.4 inv.5 in
    let j = length ls in
    let made = ap constraint c.in-Clause.is ∙ ap clause (sym c.literals.ensures) in (
      inv.0,
      inv.1,
      linked_past (map constraint rules) _ j c.loop-i.first c.loop-i.next last.next (omega (arith, last.here)) inv.2 (its_bucket rules j c.in-Some.rule.now c.literals.result.now None last.here last.is made c.in_default-bucket_of.ensures),
      st.0 ∙ inv.3,
      last.front,
      omega (arith, last.here),
    )

pub loop-i-preserved : goal.loop-i-preserved
loop-i-preserved c =
    let rules = c.args.rules.now in
    let inv = c.loop-i.invariant in
    let st = rw c.in-Some.is at c.next.ensures.steps in
    let size = length-map rules constraint in
    let ls = iter_rest (enumerate_source (rev_source c.next.new.self)) in
    let last = last_of rules (iter_rest (enumerate_source (rev_source c.loop-i.i-iterator))) ls (length (iter_rest (enumerate_source (rev_source c.loop-i.i-iterator)))) c.in-Some.rule.now st.1.0 inv.4 inv.5 in
    let j = length ls in
    let made = ap constraint c.in-Clause.is ∙ ap clause (sym c.literals.ensures) in
    let b = c.in-Some-bucket_of.bucket in
    let v = get_or c.loop-i.first b None in
    let at : c.in-Some.i ≡ j = omega (arith, st.1.1, inv.3) in
    let linked = linked_more (map constraint rules) _ j c.loop-i.first c.loop-i.next last.next (omega (arith, last.here)) inv.2 b v (bucket_small c.literals.result.now b c.in-Some-bucket_of.ensures) inv.0 inv.1 (its_bucket rules j c.in-Some.rule.now c.literals.result.now (Some b) last.here last.is made c.in-Some-bucket_of.ensures) refl in (
      simp length-set inv.0,
      simp length-set inv.1,
      subst (λ k. LinkedFrom (map constraint rules) j (set c.loop-i.first b (Some k)) (set c.loop-i.next k v)) (sym at) linked,
      st.0 ∙ inv.3,
      last.front,
      omega (arith, last.here),
    )
