use Rattle.std.proofs.Common.{arith}
use Rattle.parity.proofs.Values.{small_breaking}
use Rattle.parity.proofs.marking.mark.Goals as goal

pub bounds-marks-place : goal.bounds-marks-place
bounds-marks-place c = omega (arith, small_breaking _ c.args.switches.now c.in-Some.place c.requires c.in-Some.ensures)
