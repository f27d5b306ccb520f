use Rattle.std.proofs.Common.{◌+◌, take, vec_items, sym, subst, arith, rules}
use Rattle.std.proofs.lemmas.List.{take_all}
use Rattle.session.specs.Sessions.{session_of}
use Rattle.session.specs.Drives.{SoFar}
use Rattle.session.proofs.Drives.{none_so_far, more_so_far, all_performed}
use Rattle.session.proofs.driver.perform.Goals as goal

pub loop-call-init : goal.loop-call-init
loop-call-init g c =
    let m = g.S.Sheet.meaning c.args.sheet.now in
    let s = session_of c.in_ok-session.session in
    let fresh = c.in_ok-replies.ensures in
    (subst (λ l. SoFar m (take 0 c.args.calls.now) l s) (sym fresh.items) (none_so_far m s c.in_ok-session.ensures.recorded), fresh.len, fresh.capacity)

pub loop-call-preserved : goal.loop-call-preserved
loop-call-preserved g c =
    let m = g.S.Sheet.meaning c.args.sheet.now in
    let law = g.met.S.Sheet.lawful c.args.sheet.now in
    let inv = c.loop-call.invariant in
    let before = session_of c.loop-call.session in
    let after = session_of c.call_once.new.session in (
      subst (λ l. SoFar m (take (c.loop-call.call-index + 1) c.args.calls.now) l after) (sym c.push_reserved.ensures.items)
          (more_so_far m law c.args.calls.now c.loop-call.call-index c.call-item.result _ (vec_items c.loop-call.replies) c.in_ok-reply.reply before after c.loop-call-test.true c.call-item.is inv.0 c.in_ok-reply.ensures),
      search rules,
      search rules,
    )

pub returns : goal.returns
returns g c =
    let m = g.S.Sheet.meaning c.args.sheet.now in
    let law = g.met.S.Sheet.lawful c.args.sheet.now in
    let rs = vec_items c.loop-call.replies in
    let s = session_of c.loop-call.session in
    all_performed m law c.args.calls.now rs s
    (subst (λ l. SoFar m l rs s) (take_all c.loop-call.call-index c.args.calls.now (omega arith)) c.loop-call.invariant.0)
