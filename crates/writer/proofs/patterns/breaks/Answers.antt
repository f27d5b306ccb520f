use Rattle.std.proofs.Common.{arith}
use Rattle.writer.proofs.Values.{odd_ones}
use Rattle.writer.proofs.patterns.breaks.Goals as goal

pub returns : goal.returns
returns c = λ width within. let odd = odd_ones width c.args.pattern within in grind (arith, odd, c.is_odd.ensures)
