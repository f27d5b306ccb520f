use Rattle.text.specs.Joined.{joined}
use Rattle.text.proofs.Shown.{Shown}
use Rattle.text.proofs.each.write_each.Given as goal

abbrev pub invariant-loop-item : goal.invariant-loop-item
invariant-loop-item g l =
    (goal.iterator-loop-item g).can_next l.item-iterator
    × (goal.iterator-loop-item g).is_finite l.item-iterator
    × Shown g.W.Write.write_str_gives l.initial.f (joined g.I.Item.Display.output l.yielded) l.f
