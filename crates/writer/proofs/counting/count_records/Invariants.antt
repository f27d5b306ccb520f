use Rattle.std.proofs.Common.{◌≡◌, ◌+◌, ◌*◌, ◌≤◌, length, drop}
use Rattle.writer.specs.Expansion.{clauses_of}
use Rattle.writer.specs.Writing.{first_wide}
use Rattle.writer.proofs.counting.count_records.Given as goal

abbrev pub invariant-loop-i : goal.invariant-loop-i
invariant-loop-i g l = record {
  few : l.records ≤ 16 * l.i;
  counted : l.records + length (clauses_of (drop l.i (g.S.Sheet.meaning l.sheet).rules)) ≡ length (clauses_of (g.S.Sheet.meaning l.sheet).rules);
  narrow : first_wide l.i (drop l.i (g.S.Sheet.meaning l.sheet).rules) ≡ first_wide 0 (g.S.Sheet.meaning l.sheet).rules;
}
