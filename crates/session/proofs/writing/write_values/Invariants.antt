use Rattle.std.proofs.Common.{◌≡◌, ◌++◌, map, take, drop}
use Rattle.rules.specs.Rows.{bit}
use Rattle.session.proofs.writing.write_values.Given as goal

abbrev pub invariant-loop-i : goal.invariant-loop-i
invariant-loop-i l = l.out ≡ map bit (take l.i l.values) ++ drop l.i l.initial.out
