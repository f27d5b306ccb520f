-- What each reader of a part of a file gives.
use Rattle.std.specs.Prelude.{◌≡◌, ℕ, ◌-◌, ◌≤◌, true, length, List, [], ◌∷◌, Some, None, Ok, Err, Option, Result}
use Rattle.rules.specs.declared.faults.Fault.{Fault}
use Rattle.rules.specs.declared.kinds.Kind.{Kind}
use Rattle.rules.specs.declared.rule.Rule.{Rule}
use Rattle.rules.specs.First.{on_ok}
use Rattle.rules.specs.Constraints.{Constraint}
use Rattle.rules.specs.Lawful.{width_fits}
use Rattle.rules.specs.Views.{constraint}
use Rattle.sheets.specs.Meaning.{Meaning}
use Rattle.sheets.specs.Tables.{over}
use Rattle.files.specs.declared.records.Flaw.{Flaw}
use Rattle.files.specs.declared.sequence.Records.{Records}
use Rattle.files.specs.Formats.{RuleRead, Format}
use Rattle.files.specs.ThirdFormat.{sized}
use Rattle.files.specs.Files.{records}

-- the rules of the records that are left
abbrev pub left : Format → Records → Result (List Constraint) Fault
left f r = records f r.n (1024 - r.rules) r.rules r.place r.rest.now

-- what a file means by the records after its head, or the fault of the head
abbrev pub meant : Format → Result Records Fault → Result Meaning Fault
meant f (Ok r) = on_ok (over r.n) (left f r)
meant f (Err e) = Err e

-- the rules from the next record on, where `later` are those after it; at the end there are none
abbrev pub with_next : Result (Option Rule) Fault → Result (List Constraint) Fault → Result (List Constraint) Fault
with_next (Ok (Some rule)) later = on_ok (λ rules. constraint rule ∷ rules) later
with_next (Ok None) later = Ok []
with_next (Err e) later = Err e

-- what the check of the size gives: the width fits and the bytes are present, or the flaw
abbrev pub SizeChecked : Kind → ℕ → ℕ → List ℕ → Result (Unit {0}) Flaw → Type 0
SizeChecked kind w asked rest (Ok passed) = (width_fits kind w ≡ true) × (asked ≤ length rest)
SizeChecked kind w asked rest (Err e) = (later : Result RuleRead Flaw) → sized kind w asked rest later ≡ Err e
