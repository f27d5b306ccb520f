-- A file of either generation, for all bytes: what it means, or its fault.
-- It is a head, the records of its rules, and an end. It is checked front to back, and the first fault is the file's.
use Rattle.std.specs.Prelude.{ℕ, zero, suc, ◌+◌, ◌≤◌, ◌&&◌, List, [], ◌∷◌, length, drop, Some, None, Ok, Err, Option, Result, ◌==◌, nat_le, slice_index}
use Rattle.rules.specs.declared.faults.Layer.TheVariants.{File}
use Rattle.rules.specs.declared.faults.Cause.{Cause}
use Rattle.rules.specs.declared.faults.Cause.TheVariants.{Head, SwitchCount, Form, RuleCount}
use Rattle.rules.specs.declared.faults.Fault.{Fault}
use Rattle.rules.specs.First.{unless, verdict, on_ok}
use Rattle.rules.specs.Constraints.{Constraint}
use Rattle.rules.specs.Faults.{fault}
use Rattle.rules.specs.Lawful.{inside}
use Rattle.sheets.specs.Meaning.{Meaning, LawfulSheet}
use Rattle.sheets.specs.Tables.{over}
use Rattle.files.specs.declared.records.Flaw.{Flaw}
use Rattle.files.specs.Numbers.{word}
use Rattle.files.specs.Formats.{RuleRead, Format, marked, end_marked}

-- a fault of a file: its cause, the number of rules before it, and its place
abbrev pub file_fault : Cause → ℕ → ℕ → Fault
file_fault c k p = fault File c k p

-- THE HEAD: F (46) and the generation's byte, then the number of switches from 1 to 256

-- the number of switches: the two bytes after the mark
abbrev pub switches_in : List ℕ → ℕ
switches_in bs = word (slice_index bs 2) (slice_index bs 3)

-- under four bytes or another mark; then, a number of switches outside 1 to 256
abbrev pub head_fault : Format → List ℕ → Option Fault
head_fault f bs =
    unless (nat_le 4 (length bs) && marked 70 f.head_byte bs) (file_fault Head 0 0)
    (unless (inside 256 (switches_in bs)) (file_fault SwitchCount 0 2) None)

-- THE END: E N, then the number of rules, and nothing after it

-- k rules come before, and rest is what is left from the place p on
abbrev pub end_fault : ℕ → ℕ → List ℕ → Option Fault
end_fault k p rest =
    unless (nat_le 4 (length rest) && end_marked rest) (file_fault Form k p)
    (unless (word (slice_index rest 2) (slice_index rest 3) == k) (file_fault RuleCount k (p + 2))
    (unless (nat_le (length rest) 4) (file_fault RuleCount k (p + 4)) None))

-- THE RECORDS after the head

-- the record at the front of rest, where no more rules are permitted
abbrev pub last_record : ℕ → ℕ → List ℕ → Option (Result RuleRead Flaw) → Result (List Constraint) Fault
last_record k p rest None = verdict (end_fault k p rest) []
last_record k p rest (Some r) = Err (file_fault RuleCount k p)

-- the same, where more are: `later` is what comes of the records after this one, by their place and bytes
abbrev pub next_record : ℕ → ℕ → List ℕ → (ℕ → List ℕ → Result (List Constraint) Fault) → Option (Result RuleRead Flaw) → Result (List Constraint) Fault
next_record k p rest later None = verdict (end_fault k p rest) []
next_record k p rest later (Some (Ok r)) = on_ok (λ rules. r.rule ∷ rules) (later (p + r.size) (drop r.size rest))
next_record k p rest later (Some (Err e)) = Err (file_fault e.cause k (p + e.offset))

-- the rules of the records from the place p on, or the first fault: over n switches, where `more` rules are permitted and k come before
unfoldable pub records : Format → ℕ → ℕ → ℕ → ℕ → List ℕ → Result (List Constraint) Fault
records f n zero k p rest = last_record k p rest (f.rule_at n rest)
records f n (suc more) k p rest = next_record k p rest (records f n more (k + 1)) (f.rule_at n rest)

-- THE FILE

-- what a file over n switches means by the records after its head
abbrev pub body : Format → ℕ → List ℕ → Result Meaning Fault
body f n rest = on_ok (over n) (records f n 1024 0 4 rest)

-- the head's fault comes before any other
abbrev pub after_head : Option Fault → Result Meaning Fault → Result Meaning Fault
after_head None later = later
after_head (Some e) later = Err e

-- what the bytes mean as a file of the generation, or the first fault
abbrev pub file : Format → List ℕ → Result Meaning Fault
file f bs = after_head (head_fault f bs) (body f (switches_in bs) (drop 4 bs))

-- what a file without fault means: a lawful sheet of at most 1,024 rules
pub record LawfulFile (m : Meaning) : Type 0 where
  pub sheet : LawfulSheet m
  pub few : length m.rules ≤ 1024
