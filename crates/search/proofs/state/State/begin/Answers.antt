use Rattle.search.specs.Moves.{rules_of}
use Rattle.search.proofs.Reduction.{over_of}
use Rattle.search.proofs.Standings.{begin_stands}
use Rattle.search.proofs.state.State.begin.Goals as goal

pub returns-clause-stands : goal.returns-clause-stands
returns-clause-stands c =
    begin_stands c.args.system.now.switches (rules_of c.args.system.now) (over_of c.args.system.now) c.new-part.result c.force-forced.new.part c.new.result c.force-forced.result c.new-part.ensures.values c.new-part.ensures.level c.force-forced.ensures.moves c.force-forced.ensures.ends c.new.ensures
