-- What the parts of the writer tell of a rule and of a sheet.
use Rattle.std.specs.Prelude.{◌≡◌, ℕ, ◌≤◌, true, cond, length, Some, None, Option, Result}
use Rattle.rules.specs.declared.faults.Fault.{Fault}
use Rattle.rules.specs.First.{every, verdict}
use Rattle.rules.specs.Constraints.{Constraint}
use Rattle.rules.specs.Lawful.{inside}
use Rattle.sheets.specs.Meaning.{Meaning}
use Rattle.writer.specs.Expansion.{expanded, clauses_of, is_wide, is_narrow}
use Rattle.writer.specs.Writing.{refusal}

-- what is not refused
pub record Writable (m : Meaning) : Type 0 where
  pub some : inside 256 m.switches ≡ true
  pub narrow : every is_narrow m.rules ≡ true
  pub few : length (clauses_of m.rules) ≤ 1024

-- how many records a rule takes; absent where it is too wide
abbrev pub records_for : Constraint → Option ℕ
records_for r = cond (is_wide r) None (Some (length (expanded r)))

-- how many records a rule takes that may be absent
abbrev pub records_at : Option Constraint → Option ℕ
records_at None = Some 0
records_at (Some r) = records_for r

-- how many records a sheet takes
abbrev pub record_count : Meaning → Result ℕ Fault
record_count m = verdict (refusal m) (length (clauses_of m.rules))
