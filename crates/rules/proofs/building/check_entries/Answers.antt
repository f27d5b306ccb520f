use Rattle.std.proofs.Common.{◌≡◌, true, false, get_or, pos, sym, ap, arith, rules}
use Rattle.rules.specs.First.{verdict}
use Rattle.rules.specs.Entries.{literal, named}
use Rattle.rules.proofs.Firsts.{first_none, first_more, first_found}
use Rattle.rules.proofs.Misfits.{entry_unfit, entry_repeated, entry_fine, named-take}
use Rattle.rules.proofs.building.check_entries.Goals as goal

pub loop-i-init : goal.loop-i-init
loop-i-init c = first_none _

pub returns-then-not-is_fitting : goal.returns-then-not-is_fitting
returns-then-not-is_fitting c =
    let this : c.from-literal.result ≡ literal (get_or c.args.entries.now c.loop-i.i (pos 0)) = search rules in
    let here = entry_unfit _ _ _ _ _ this (sym c.if-not-is_fitting.ensures) in
    ap (λ o. verdict o tt) (sym (first_found _ _ _ _ c.loop-i.invariant here c.loop-i-test.true))

pub returns-then-is_named : goal.returns-then-is_named
returns-then-is_named c =
    let same = named-take c.args.entries.now c.from-literal.result.switch c.loop-i.i (omega (arith, c.loop-i-test.true)) in
    let named-before : named c.args.entries.now c.from-literal.result.switch c.loop-i.i ≡ true = search (rules, same) in
    let this : c.from-literal.result ≡ literal (get_or c.args.entries.now c.loop-i.i (pos 0)) = search rules in
    let here = entry_repeated _ _ _ _ _ this (sym c.if-not-is_fitting.ensures) named-before in
    ap (λ o. verdict o tt) (sym (first_found _ _ _ _ c.loop-i.invariant here c.loop-i-test.true))

pub loop-i-preserved : goal.loop-i-preserved
loop-i-preserved c =
    let same = named-take c.args.entries.now c.from-literal.result.switch c.loop-i.i (omega (arith, c.loop-i-test.true)) in
    let not-named : named c.args.entries.now c.from-literal.result.switch c.loop-i.i ≡ false = search (rules, same) in
    let this : c.from-literal.result ≡ literal (get_or c.args.entries.now c.loop-i.i (pos 0)) = search rules in
    first_more _ _ c.loop-i.invariant (entry_fine _ _ _ _ _ this (sym c.if-not-is_fitting.ensures) not-named)
