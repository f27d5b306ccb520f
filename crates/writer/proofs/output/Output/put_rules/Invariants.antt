use Rattle.std.proofs.Common.{◌≡◌, true}
use Rattle.std.specs.List.{flat_map}
use Rattle.rules.specs.First.{every}
use Rattle.sheets.specs.Left.{rules_left}
use Rattle.writer.specs.declared.output.Output.{Output}
use Rattle.writer.specs.Expansion.{is_narrow}
use Rattle.writer.specs.Writing.{rule_bytes}
use Rattle.writer.specs.Output.{HasRoom, Puts}
use Rattle.writer.proofs.output.Output.put_rules.Given as goal

abbrev pub invariant-loop-rule : goal.invariant-loop-rule
invariant-loop-rule g l = record {
  narrow : every is_narrow (rules_left g.S.Sheet.meaning l.rule-iterator) ≡ true;
  room : HasRoom (flat_map rule_bytes (rules_left g.S.Sheet.meaning l.rule-iterator)) l.self;
  rest : (n : Output) → Puts (flat_map rule_bytes (rules_left g.S.Sheet.meaning l.rule-iterator)) l.self n → Puts (flat_map rule_bytes (g.S.Sheet.meaning l.sheet).rules) l.initial.self n;
}
