-- What every generation of the format has: a head, and rule records.
use Rattle.std.specs.Prelude.{◌≡◌, ℕ, ◌+◌, ◌*◌, ◌≤◌, Bool, true, cond, ◌&&◌, List, length, Some, None, Ok, Err, Option, Result, ◌==◌, nat_le, slice_index}
use Rattle.rules.specs.declared.faults.Cause.{Cause}
use Rattle.rules.specs.declared.faults.Misfit.{Misfit}
use Rattle.rules.specs.Constraints.{Constraint}
use Rattle.rules.specs.Lawful.{lawful}
use Rattle.rules.specs.Views.{constraint}
use Rattle.files.specs.declared.records.RuleRecord.{RuleRecord}
use Rattle.files.specs.declared.records.Flaw.{Flaw}

-- a rule, and the number of bytes of its record
pub record RuleRead : Type 0 where
  pub rule : Constraint
  pub size : ℕ

-- what a record in the code stands for
abbrev pub read_as : RuleRecord → RuleRead
read_as r = record { rule = constraint r.rule; size = r.size }

-- what is wrong with a rule record, and at which of its bytes
abbrev pub flaw : Cause → ℕ → Flaw
flaw c o = record { cause = c; offset = o }

-- a generation: the second byte of its head, and what the rule record at the front of some bytes is over n switches;
-- nothing, where they do not begin with the mark of a rule
pub record Format : Type 0 where
  pub head_byte : ℕ
  pub rule_at : ℕ → List ℕ → Option (Result RuleRead Flaw)

-- a rule record lies within the l bytes, and its rule is lawful; what is wrong with one is wrong within them
abbrev pub Sound : ℕ → ℕ → Result RuleRead Flaw → Type 0
Sound n l (Ok r) = (r.size ≤ l) × (lawful n r.rule ≡ true)
Sound n l (Err e) = e.offset ≤ l

-- the same, where there is a rule record
abbrev pub SoundAt : ℕ → ℕ → Option (Result RuleRead Flaw) → Type 0
SoundAt n l None = Unit {0}
SoundAt n l (Some r) = Sound n l r

-- the bytes begin with the mark a b
abbrev pub marked : ℕ → ℕ → List ℕ → Bool
marked a b bs = nat_le 2 (length bs) && (slice_index bs 0 == a && slice_index bs 1 == b)

-- the marks: C L (43 4C) of a clause, P A (50 41) of a parity rule, E N (45 4E) of the end
abbrev pub clause_marked : List ℕ → Bool
clause_marked bs = marked 67 76 bs

abbrev pub parity_marked : List ℕ → Bool
parity_marked bs = marked 80 65 bs

abbrev pub end_marked : List ℕ → Bool
end_marked bs = marked 69 78 bs

-- the flaw where the test fails, else what comes of the later tests
abbrev pub demand : Bool → Flaw → Result RuleRead Flaw → Result RuleRead Flaw
demand passes e later = cond passes later (Err e)

-- a rule or its misfit, in a record of the size whose entries begin at the byte `first`
abbrev pub framed : ℕ → ℕ → Result Constraint Misfit → Result RuleRead Flaw
framed first size (Ok r) = Ok (record { rule = r; size = size })
framed first size (Err m) = Err (flaw m.cause (first + 2 * m.index))
