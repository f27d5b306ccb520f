use Rattle.std.proofs.Common.{◌≡◌, length, take}
use Rattle.writer.specs.Bytes.{record_bytes}
use Rattle.writer.proofs.expansion.record_of.Given as goal

abbrev pub invariant-loop-j : goal.invariant-loop-j
invariant-loop-j l = record { sized : length l.record ≡ 18; read : l.record ≡ record_bytes (take l.j l.literals) }
