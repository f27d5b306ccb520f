use Rattle.std.proofs.Common.{◌≡◌, length, take}
use Rattle.parity.proofs.Conversions.{Members}
use Rattle.parity.proofs.equations.Equation.of.Given as goal

abbrev pub invariant-loop-switch : goal.invariant-loop-switch
invariant-loop-switch l = (length l.members ≡ 256) × Members l.members (take l.switch-index l.switch-items)
