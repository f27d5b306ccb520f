-- The third-year format. A clause is the mark C L, a width byte and its literals; a parity rule is the mark P A, a width byte, a side byte and its switches.
use Rattle.std.specs.Prelude.{ℕ, ◌+◌, ◌*◌, cond, List, length, drop, Some, None, Err, Option, Result, nat_le, slice_index}
use Rattle.rules.specs.declared.faults.Cause.TheVariants.{Form, Width, Entry}
use Rattle.rules.specs.declared.kinds.Side.{Side}
use Rattle.rules.specs.declared.kinds.Side.TheVariants.{Even}
use Rattle.rules.specs.declared.kinds.Kind.{Kind}
use Rattle.rules.specs.declared.kinds.Kind.TheVariants.{Clause, Parity}
use Rattle.rules.specs.Lawful.{width_fits}
use Rattle.rules.specs.Entries.{built, side_numbered}
use Rattle.files.specs.declared.records.Flaw.{Flaw}
use Rattle.files.specs.Numbers.{entries_in}
use Rattle.files.specs.Formats.{RuleRead, Format, flaw, clause_marked, parity_marked, demand, framed}

-- the width fits the kind, and then the bytes that it asks for are present
abbrev pub sized : Kind → ℕ → ℕ → List ℕ → Result RuleRead Flaw → Result RuleRead Flaw
sized kind w asked rest later = demand (width_fits kind w) (flaw Width 2) (demand (nat_le asked (length rest)) (flaw Form 0) later)

-- the w entries that es begins with, as a rule of the kind, in a record whose entries begin at its byte `first`
abbrev pub listed : Kind → ℕ → ℕ → ℕ → List ℕ → Result RuleRead Flaw
listed kind n first w es = framed first (first + 2 * w) (built kind n (entries_in w es))

-- a clause of the width w: rest is what follows the width byte
abbrev pub third_clause : ℕ → ℕ → List ℕ → Result RuleRead Flaw
third_clause n w rest = sized Clause w (2 * w) rest (listed Clause n 3 w rest)

-- a parity rule with its side, absent where the side byte is none
abbrev pub with_side : Option Side → ℕ → ℕ → List ℕ → Result RuleRead Flaw
with_side None n w es = Err (flaw Entry 3)
with_side (Some side) n w es = listed (Parity side) n 4 w es

-- a parity rule of the width w: rest is what follows the width byte
abbrev pub third_parity : ℕ → ℕ → List ℕ → Result RuleRead Flaw
third_parity n w rest = sized (Parity Even) w (1 + 2 * w) rest (with_side (side_numbered (slice_index rest 0)) n w (drop 1 rest))

-- a record has a width byte; then it is what its kind makes of the width and of the bytes after it
abbrev pub with_width : (ℕ → List ℕ → Result RuleRead Flaw) → List ℕ → Result RuleRead Flaw
with_width of-kind bs = demand (nat_le 3 (length bs)) (flaw Form 0) (of-kind (slice_index bs 2) (drop 3 bs))

-- the rule record at the front of bs
abbrev pub third_rule : ℕ → List ℕ → Option (Result RuleRead Flaw)
third_rule n bs =
    cond (clause_marked bs) (Some (with_width (third_clause n) bs))
    (cond (parity_marked bs) (Some (with_width (third_parity n) bs)) None)

-- its head is F 3
abbrev pub third_year : Format
third_year = record { head_byte = 51; rule_at = third_rule }
