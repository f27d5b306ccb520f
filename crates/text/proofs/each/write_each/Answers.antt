use Rattle.std.proofs.Common.{subst, rules}
use Rattle.std.specs.Iterator.{Drains}
use Rattle.text.proofs.Shown.{Shown, joined_more, shown_more, shown_ok}
use Rattle.text.proofs.each.write_each.Goals as goal

pub loop-item-preserved : goal.loop-item-preserved
loop-item-preserved g c =
    let text = g.I.Item.Display.output in
    let took = g.W.Write.write_str_gives in (
      search rules,
      search rules,
      subst (λ o. Shown took c.args.f.now o c.write.new.self) (joined_more text c.loop-item.yielded c.in-Some.item)
          (shown_more took _ _ _ _ _ _ c.loop-item.invariant.2 c.in_ok-write.ensures.writes),
    )

pub returns : goal.returns
returns g c =
    let took = g.W.Write.write_str_gives in
    let first = c.into_iter-item-iterator.ensures.into_iter_gives in
    let ran = subst (λ s. Drains g.I.Iterator.next_gives s c.loop-item.yielded) first (c.next.new.self, (c.loop-item.item-iterator, c.loop-item.yielded_by, c.in-None.ensures.steps)) in
    (c.loop-item.yielded, ran, shown_ok took _ _ _ tt c.loop-item.invariant.2)
