use Rattle.std.proofs.Common.{map}
use Rattle.search.proofs.Going.{moves_then}
use Rattle.search.proofs.forcing.force_alone.Goals as goal

pub loop-next-preserved : goal.loop-next-preserved
loop-next-preserved g c =
    moves_then (map g.R.Forcing.constraint c.args.rules.now) c.args.part.now c.loop-next.part c.force_next.new.part c.loop-next.invariant c.force_next.ensures.moves

pub returns-in_err-next-clause-moves : goal.returns-in_err-next-clause-moves
returns-in_err-next-clause-moves g c =
    moves_then (map g.R.Forcing.constraint c.args.rules.now) c.args.part.now c.loop-next.part c.force_next.new.part c.loop-next.invariant c.force_next.ensures.moves
