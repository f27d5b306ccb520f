use Rattle.std.proofs.Common.{◌≡◌, map, drop}
use Rattle.sheets.specs.Tables.{table_rules}
use Rattle.sheets.specs.Views.{draft}
use Rattle.sheets.proofs.Tabled.{checked_only}
use Rattle.sheets.proofs.tabling.check_table.Given as goal

abbrev pub invariant-loop-i : goal.invariant-loop-i
invariant-loop-i l = checked_only (table_rules l.n l.i (map draft (drop l.i l.rules))) ≡ checked_only (table_rules l.n 0 (map draft l.rules))
