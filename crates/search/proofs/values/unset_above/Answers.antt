use Rattle.search.proofs.Levels.{back_none, back_all}
use Rattle.search.proofs.values.unset_above.Goals as goal

pub loop-index-init : goal.loop-index-init
loop-index-init c = back_none c.args.values.now c.args.levels.now c.args.limit c.told-values

pub returns : goal.returns
returns c = back_all c.args.values.now c.args.levels.now c.args.limit c.loop-index.values c.loop-index.index c.told-values c.loop-index-test.false c.loop-index.invariant
