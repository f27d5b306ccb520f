use Rattle.std.proofs.Common.{rules}
use Rattle.search.proofs.Standing.{turn_room, turn_ready}
use Rattle.search.proofs.search.Search.turn_on.Goals as goal

pub offset_bounds-self-at : goal.offset_bounds-self-at
offset_bounds-self-at c = let room = turn_room c.args.self.now c.args.at c.requires in search rules

pub bounds-self-at : goal.bounds-self-at
bounds-self-at c = turn_room c.args.self.now c.args.at c.requires

pub turn_at-requires : goal.turn_at-requires
turn_at-requires c = turn_room c.args.self.now c.args.at c.requires

pub overflow_cast-at : goal.overflow_cast-at
overflow_cast-at c = let room = turn_room c.args.self.now c.args.at c.requires in search rules

pub follow-requires : goal.follow-requires
follow-requires c = turn_ready c.args.self.now c.args.at c.requires c.turn_at.new.self c.turn_at.ensures.tops c.back_to.new.self c.back_to.ensures
