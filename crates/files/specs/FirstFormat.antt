-- The first-year format. Its one kind of rule record is a clause: the mark C L and eight slots of two bytes. The unused slots are 0, and last.
use Rattle.std.specs.Prelude.{ℕ, ◌+◌, ◌*◌, Bool, false, cond, List, [], ◌∷◌, length, drop, ℤ, pos, negsuc, Some, None, Err, Option, Result, ◌==◌, nat_le}
use Rattle.rules.specs.declared.faults.Cause.TheVariants.{Form, Width}
use Rattle.rules.specs.declared.kinds.Kind.TheVariants.{Clause}
use Rattle.rules.specs.Entries.{built}
use Rattle.files.specs.declared.records.Flaw.{Flaw}
use Rattle.files.specs.Numbers.{entries_in}
use Rattle.files.specs.Formats.{RuleRead, Format, flaw, clause_marked, demand, framed}

-- both bytes of the slot are 0
abbrev pub is_empty : ℤ → Bool
is_empty (pos v) = v == 0
is_empty (negsuc v) = false

-- the entries before the first empty slot
abbrev pub used_slots : List ℤ → List ℤ
used_slots [] = []
used_slots (e ∷ es) = cond (is_empty e) [] (e ∷ used_slots es)

-- the first filled slot of es, whose first slot is the slot i
abbrev pub filled_from : ℕ → List ℤ → Option ℕ
filled_from i [] = None
filled_from i (e ∷ es) = cond (is_empty e) (filled_from (i + 1) es) (Some i)

-- the first filled slot after an empty one
abbrev pub gap : List ℤ → Option ℕ
gap es = filled_from (length (used_slots es)) (drop (length (used_slots es)) es)

-- a filled slot after an empty one is told at its first byte, two bytes of mark and two for each slot before it
abbrev pub unless_gap : Option ℕ → Result RuleRead Flaw → Result RuleRead Flaw
unless_gap None later = later
unless_gap (Some i) later = Err (flaw Width (2 + 2 * i))

-- a clause of the slots es: the first slot is filled, no filled slot follows an empty one, and then the used slots are its entries
abbrev pub slotted : ℕ → List ℤ → Result RuleRead Flaw
slotted n es =
    demand (nat_le 1 (length (used_slots es))) (flaw Width 2)
    (unless_gap (gap es) (framed 2 18 (built Clause n (used_slots es))))

-- a clause, where rest is what follows its mark
abbrev pub first_clause : ℕ → List ℕ → Result RuleRead Flaw
first_clause n rest = demand (nat_le 16 (length rest)) (flaw Form 0) (slotted n (entries_in 8 rest))

-- the rule record at the front of bs
abbrev pub first_rule : ℕ → List ℕ → Option (Result RuleRead Flaw)
first_rule n bs = cond (clause_marked bs) (Some (first_clause n (drop 2 bs))) None

-- its head is F 1
abbrev pub first_year : Format
first_year = record { head_byte = 49; rule_at = first_rule }
