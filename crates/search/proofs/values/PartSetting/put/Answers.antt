use Rattle.std.proofs.Common.{rules}
use Rattle.search.proofs.Levels.{puts}
use Rattle.search.proofs.values.PartSetting.put.Goals as goal

pub returns : goal.returns
returns c = puts c.args.self.now c.args.literal c.of.result c.of.ensures (search rules) (search rules) c.requires
