use Rattle.std.proofs.Common.{◌≡◌, ◌++◌, length, take, drop}
use Rattle.std.specs.List.{slice_get}
use Rattle.sheets.specs.Meaning.{entries_in}
use Rattle.sheets.proofs.rules_of.clause_at.Given as goal

abbrev pub invariant-loop-j : goal.invariant-loop-j
invariant-loop-j g l =
    let entries = entries_in (slice_get (g.S.Sheet.meaning l.sheet).rules l.i) in
    record { sized : length l.literals ≡ 8; held : take l.j l.literals ++ drop l.j entries ≡ entries }
