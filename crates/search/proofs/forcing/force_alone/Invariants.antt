use Rattle.std.proofs.Common.{map}
use Rattle.search.specs.Moves.{Moves, left_over}
use Rattle.search.proofs.forcing.force_alone.Given as goal

abbrev pub invariant-loop-next : goal.invariant-loop-next
invariant-loop-next g l = Moves (map g.R.Forcing.constraint l.rules) l.initial.part l.part

abbrev pub decreases-loop-next : goal.decreases-loop-next
decreases-loop-next g l = left_over 256 l.part l.from
