use Rattle.std.proofs.Common.{length, take}
use Rattle.std.specs.List.{flat_map}
use Rattle.parity_theory.specs.Writing.{settings}
use Rattle.writer.specs.Output.{Puts}
use Rattle.writer.proofs.Settings.{clause_bytes}
use Rattle.writer.proofs.output.Output.put_parity.Given as goal

abbrev pub invariant-loop-pattern : goal.invariant-loop-pattern
invariant-loop-pattern l = Puts (flat_map (clause_bytes l.named l.rule.side) (take l.pattern (settings (length l.named)))) l.initial.self l.self
