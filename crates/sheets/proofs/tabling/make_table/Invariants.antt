use Rattle.std.proofs.Common.{◌≡◌, true, map, drop, vec_items, vec_len}
use Rattle.rules.specs.First.{every}
use Rattle.rules.specs.Lawful.{lawful}
use Rattle.rules.specs.Views.{constraint}
use Rattle.sheets.specs.Tables.{table_rules}
use Rattle.sheets.specs.Views.{draft}
use Rattle.sheets.proofs.Tabled.{prefixed}
use Rattle.sheets.proofs.tabling.make_table.Given as goal

abbrev pub invariant-loop-i : goal.invariant-loop-i
invariant-loop-i l = record {
  counted : vec_len l.built ≡ l.i;
  lawful : every (lawful l.n) (map constraint (vec_items l.built)) ≡ true;
  rest : prefixed (map constraint (vec_items l.built)) (table_rules l.n l.i (map draft (drop l.i l.rules))) ≡ table_rules l.n 0 (map draft l.rules);
}
