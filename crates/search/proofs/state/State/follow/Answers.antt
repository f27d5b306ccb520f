use Rattle.std.proofs.Common.{arith, rules}
use Rattle.search.specs.Moves.{rules_of}
use Rattle.search.specs.Stacks.{stack}
use Rattle.search.proofs.Reduction.{over_of}
use Rattle.search.proofs.Standings.{reached_room, reached_within, follow_stands}
use Rattle.search.proofs.state.State.follow.Goals as goal

pub overflow_add-self : goal.overflow_add-self
overflow_add-self c =
    let few = c.args.system.now.few in
    let room = reached_room c.args.system.now.switches (rules_of c.args.system.now) c.args.literal c.args.self.now.tries.table c.args.self.now.part.level c.requires.reached in
    search rules

pub put-requires : goal.put-requires
put-requires c =
    let few = c.args.system.now.few in
    let w = reached_within c.args.system.now.switches (rules_of c.args.system.now) c.args.literal (stack c.args.self.now.tries.table c.args.self.now.part.level) c.requires.reached in
    (w.0, omega arith)

pub returns-clause-stands : goal.returns-clause-stands
returns-clause-stands c =
    follow_stands c.args.system.now.switches (rules_of c.args.system.now) (over_of c.args.system.now) c.args.literal c.args.self.now c.requires c.put.new.self c.force-self.new.part c.force-self.result c.put.ensures c.force-self.ensures.moves c.force-self.ensures.ends
