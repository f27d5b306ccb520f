use Rattle.std.proofs.Common.{◌≡◌, ◌++◌, map, length, take, drop}
use Rattle.std.specs.List.{slice_get}
use Rattle.rules.specs.Constraints.{switch_of}
use Rattle.sheets.specs.Meaning.{entries_in}
use Rattle.sheets.proofs.rules_of.parity_at.Given as goal

abbrev pub invariant-loop-j : goal.invariant-loop-j
invariant-loop-j g l =
    let told = map switch_of (entries_in (slice_get (g.S.Sheet.meaning l.sheet).rules l.i)) in
    record { sized : length l.switches ≡ 16; held : take l.j l.switches ++ drop l.j told ≡ told }
