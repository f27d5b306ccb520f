use Rattle.std.proofs.Common.{◌≡◌, ℕ, ◌+◌, ◌-◌, ◌<◌, true, false, List, length, get_or, take, set, refl, sym, ap, ◌∙◌, subst, ap₂, arith, length-set}
use Rattle.std.proofs.lemmas.List.{get_or-replicate, take_all}
use Rattle.std.proofs.lemmas.Bool.{and_parts, leb-true}
use Rattle.rules.specs.First.{every}
use Rattle.rules.specs.Settings.{Within}
use Rattle.rules.specs.Lawful.{inside}
use Rattle.rules.specs.Views.{switches_of}
use Rattle.rules.proofs.Lawfuls.{every_at}
use Rattle.parity.proofs.Conversions.{Members, member_more, members_set}
use Rattle.parity.proofs.equations.Equation.of.Goals as goal

pub loop-switch-init : goal.loop-switch-init
loop-switch-init c = (refl, λ k h. get_or-replicate 256 k false false h)

-- the switch at the index is one of 256
within : (vs : List ℕ) (i : ℕ) → every (inside 256) vs ≡ true → i < length vs → Within 256 (get_or vs i 0)
within vs i h l =
    let p = and_parts _ _ (every_at (inside 256) vs 0 h i l) in
    (leb-true 1 (get_or vs i 0) p.0, leb-true (get_or vs i 0) 256 p.1)

pub loop-switch-preserved : goal.loop-switch-preserved
loop-switch-preserved c =
    let vs = c.switches-switch-items.result.now in
    let i = c.loop-switch.switch-index in
    let members = c.loop-switch.members in
    let ok = within vs i (ap (every (inside 256)) c.switches-switch-items.ensures ∙ c.requires) c.loop-switch-test.true in
    subst (λ v. (length (set members (v - 1) true) ≡ 256) × Members (set members (v - 1) true) (take (i + 1) vs)) (sym c.from.ensures)
    (simp length-set c.loop-switch.invariant.0, member_more members vs i c.loop-switch.invariant.0 c.loop-switch-test.true ok.0 ok.1 c.loop-switch.invariant.1)

pub returns : goal.returns
returns c =
    let vs = c.switches-switch-items.result.now in
    let whole = take_all c.loop-switch.switch-index vs (omega arith) ∙ c.switches-switch-items.ensures in
    let members = members_set c.loop-switch.members (switches_of c.args.rule.now) c.loop-switch.invariant.0 (subst (Members c.loop-switch.members) whole c.loop-switch.invariant.1) in
    ap₂ (λ m b. record { members = m; odd = b }) members c.is_odd.ensures
