use Rattle.search.proofs.Standing.{off_room, off_ready}
use Rattle.search.proofs.search.Search.try_off.Goals as goal

pub add-requires : goal.add-requires
add-requires c = off_room c.args.self.now c.args.switch c.requires

pub follow-requires : goal.follow-requires
follow-requires c = off_ready c.args.self.now c.args.switch c.requires c.add.new.self c.add.ensures
