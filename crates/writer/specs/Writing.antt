-- What the writer gives for a sheet: the bytes of its first-year file, or the fault for which it is refused.
use Rattle.std.specs.Prelude.{◌≡◌, ℕ, ◌+◌, cond, List, [], ◌∷◌, ◌++◌, length, Some, None, Ok, Err, Option, Result, nat_le}
use Rattle.std.specs.List.{flat_map}
use Rattle.rules.specs.declared.faults.Layer.TheVariants.{Writer}
use Rattle.rules.specs.declared.faults.Cause.{Cause}
use Rattle.rules.specs.declared.faults.Cause.TheVariants.{SwitchCount, ParityTooWide, TooManyRecords}
use Rattle.rules.specs.declared.faults.Fault.{Fault}
use Rattle.rules.specs.declared.literals.Literal.{Literal}
use Rattle.rules.specs.First.{unless, verdict}
use Rattle.rules.specs.Constraints.{Constraint}
use Rattle.rules.specs.Faults.{fault}
use Rattle.rules.specs.Lawful.{inside}
use Rattle.sheets.specs.Meaning.{Meaning}
use Rattle.text.specs.Lent.{Written}
use Rattle.writer.specs.Bytes.{low_high, record_bytes}
use Rattle.writer.specs.Expansion.{expanded, clauses_of, is_wide}

-- THE FILE: the head F 1 with the number of switches, a record for each clause, and the end E N with the number of records

-- F 1 (46 31) and the number of switches
abbrev pub head_bytes : ℕ → List ℕ
head_bytes n = 70 ∷ 49 ∷ low_high n

-- E N (45 4E) and the number of records
abbrev pub end_bytes : ℕ → List ℕ
end_bytes k = 69 ∷ 78 ∷ low_high k

-- the records of the clauses that a rule is written as
abbrev pub rule_bytes : Constraint → List ℕ
rule_bytes r = flat_map record_bytes (expanded r)

-- the file of clauses over n switches
abbrev pub file_bytes : ℕ → List (List Literal) → List ℕ
file_bytes n cs = head_bytes n ++ (flat_map record_bytes cs ++ end_bytes (length cs))

-- the file of a sheet
abbrev pub first_year_bytes : Meaning → List ℕ
first_year_bytes m = file_bytes m.switches (clauses_of m.rules)

-- THE REFUSALS

-- a fault of the writer: its cause, and the number of rules before the place at fault
abbrev pub writer_fault : Cause → ℕ → Fault
writer_fault c k = fault Writer c k 0

-- how many rules come before the first parity rule that is too wide, of these rules and the k before them
abbrev pub first_wide : ℕ → List Constraint → Option ℕ
first_wide k [] = None
first_wide k (r ∷ rs) = cond (is_wide r) (Some k) (first_wide (k + 1) rs)

-- a rule that is too wide is refused, with the number of rules before it
abbrev pub unless_wide : Option ℕ → Option Fault → Option Fault
unless_wide None later = later
unless_wide (Some k) later = Some (writer_fault ParityTooWide k)

-- 1 to 256 switches, then no parity rule too wide, then at most 1,024 records
abbrev pub refusal : Meaning → Option Fault
refusal m =
    unless (inside 256 m.switches) (writer_fault SwitchCount 0)
    (unless_wide (first_wide 0 m.rules)
    (unless (nat_le (length (clauses_of m.rules)) 1024) (writer_fault TooManyRecords 0) None))

-- the bytes of the file, or why the sheet is refused
abbrev pub writing : Meaning → Result (List ℕ) Fault
writing m = verdict (refusal m) (first_year_bytes m)

-- what is written stands at the front of the buffer, if there is room for it; what is refused leaves the buffer as it was
abbrev pub Outcome : Result (List ℕ) Fault → List ℕ → List ℕ → Result ℕ Fault → Type 0
Outcome (Ok bytes) old new r = Written bytes old new r
Outcome (Err f) old new r = (r ≡ Err f) × (new ≡ old)
