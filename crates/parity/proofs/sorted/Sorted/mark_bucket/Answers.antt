use Rattle.std.proofs.Common.{map, Some, sym, ap, ◌∙◌, subst}
use Rattle.rules.specs.Views.{constraint}
use Rattle.parity.specs.Places.{marked_by}
use Rattle.parity.proofs.Linking.{Walk, turn, walk_end}
use Rattle.parity.proofs.sorted.Sorted.mark_bucket.Goals as goal

pub bounds-self-i : goal.bounds-self-i
bounds-self-i c =
    let t = turn c.args.switches.now c.args.self.now c.args.bucket c.loop-index.index c.from-i.result c.loop-index.marks (marked_by c.args.switches.now (map constraint c.args.self.now.rules.now) c.args.marks.now) (record { ranged = c.requires.ranged; apart = c.requires.apart }) c.requires.narrow c.requires.bucket (c.in-Some.is ∙ ap Some (sym c.from-i.ensures)) c.loop-index.invariant in
    t.inner

pub bounds-self-i-in-Some : goal.bounds-self-i-in-Some
bounds-self-i-in-Some c =
    let t = turn c.args.switches.now c.args.self.now c.args.bucket c.loop-index.index c.from-i.result c.loop-index.marks (marked_by c.args.switches.now (map constraint c.args.self.now.rules.now) c.args.marks.now) (record { ranged = c.requires.ranged; apart = c.requires.apart }) c.requires.narrow c.requires.bucket (c.in-Some.is ∙ ap Some (sym c.from-i.ensures)) c.loop-index.invariant in
    t.linked

pub loop-index-smaller : goal.loop-index-smaller
loop-index-smaller c =
    let t = turn c.args.switches.now c.args.self.now c.args.bucket c.loop-index.index c.from-i.result c.loop-index.marks (marked_by c.args.switches.now (map constraint c.args.self.now.rules.now) c.args.marks.now) (record { ranged = c.requires.ranged; apart = c.requires.apart }) c.requires.narrow c.requires.bucket (c.in-Some.is ∙ ap Some (sym c.from-i.ensures)) c.loop-index.invariant in
    t.nearer

pub loop-index-preserved : goal.loop-index-preserved
loop-index-preserved c =
    let t = turn c.args.switches.now c.args.self.now c.args.bucket c.loop-index.index c.from-i.result c.loop-index.marks (marked_by c.args.switches.now (map constraint c.args.self.now.rules.now) c.args.marks.now) (record { ranged = c.requires.ranged; apart = c.requires.apart }) c.requires.narrow c.requires.bucket (c.in-Some.is ∙ ap Some (sym c.from-i.ensures)) c.loop-index.invariant in
    t.goes_on c.index-self-i.result c.mark.new.marks c.mark.ensures

pub returns : goal.returns
returns c =
    let rules = map constraint c.args.self.now.rules.now in
    walk_end c.args.switches.now c.args.bucket (record { ranged = c.requires.ranged; apart = c.requires.apart }) c.requires.narrow c.requires.bucket rules c.args.self.now.sound c.loop-index.marks _
    (subst (λ o. Walk c.args.switches.now rules c.args.bucket o c.loop-index.marks (marked_by c.args.switches.now rules c.args.marks.now)) c.in_default.is c.loop-index.invariant)
