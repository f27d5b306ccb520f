-- The rules that an iterator over a sheet has left.
use Rattle.std.specs.Prelude.{List, drop}
use Rattle.rules.specs.Constraints.{Constraint}
use Rattle.sheets.specs.declared.rules_of.Rules.{Rules}
use Rattle.sheets.specs.Meaning.{Meaning}

-- those from the next on
abbrev pub rules_left : {S : Type 0} → (S → Meaning) → Rules S → List Constraint
rules_left meaning r = drop r.next (meaning r.sheet.now).rules
