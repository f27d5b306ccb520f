use Rattle.std.proofs.Common.{◌≡◌, length, take}
use Rattle.files.specs.Numbers.{entries_in}
use Rattle.files.proofs.numbers.decode.Given as goal

abbrev pub invariant-loop-i : goal.invariant-loop-i
invariant-loop-i l = record { sized : length l.entries ≡ 16; read : take l.i l.entries ≡ entries_in l.i l.bytes }
