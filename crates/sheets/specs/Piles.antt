-- Sheets made of other sheets: a placing adds k to each switch number, and a pair puts one sheet's rules behind another's.
use Rattle.std.specs.Prelude.{ℕ, ◌+◌, max, Bool, cond, ◌++◌, map, length, Ok, Err, Result, nat_le}
use Rattle.rules.specs.declared.literals.Literal.{Literal}
use Rattle.rules.specs.declared.faults.Layer.TheVariants.{Pile}
use Rattle.rules.specs.declared.faults.Cause.TheVariants.{PlacedTooHigh, PairTooLong}
use Rattle.rules.specs.declared.faults.Fault.{Fault}
use Rattle.rules.specs.Constraints.{Constraint, clause, parity}
use Rattle.rules.specs.Faults.{fault}
use Rattle.sheets.specs.Meaning.{Meaning, blank}

-- k added to each switch number
abbrev pub shifted : ℕ → Literal → Literal
shifted k l = record { switch = l.switch + k; on = l.on }

-- the same of each switch of a rule
abbrev pub shifted_rule : ℕ → Constraint → Constraint
shifted_rule k (clause ls) = clause (map (shifted k) ls)
shifted_rule k (parity vs side) = parity (map (λ v. v + k) vs) side

-- k more switches, and k added to each switch of each rule
abbrev pub shifted_sheet : ℕ → Meaning → Meaning
shifted_sheet k m = record { switches = m.switches + k; rules = map (shifted_rule k) m.rules }

-- a placing has at most 256 switches
abbrev pub has_room : Meaning → ℕ → Bool
has_room m k = nat_le (m.switches + k) 256

-- refused where it would have more
abbrev pub placing_check : Meaning → ℕ → Result (Unit {0}) Fault
placing_check m k = cond (has_room m k) (Ok tt) (Err (fault Pile PlacedTooHigh 0 0))

-- what a placing by k means: blank exactly where its check refuses
abbrev pub placed : Meaning → ℕ → Meaning
placed m k = cond (has_room m k) (shifted_sheet k m) blank

-- the greater number of switches, and the first sheet's rules followed by the second's
abbrev pub joined_sheets : Meaning → Meaning → Meaning
joined_sheets a b = record { switches = max a.switches b.switches; rules = a.rules ++ b.rules }

-- a pair has at most 2,048 rules
abbrev pub is_short : Meaning → Meaning → Bool
is_short a b = nat_le (length a.rules + length b.rules) 2048

-- refused where it would have more
abbrev pub pair_check : Meaning → Meaning → Result (Unit {0}) Fault
pair_check a b = cond (is_short a b) (Ok tt) (Err (fault Pile PairTooLong 0 0))

-- what a pair means: blank exactly where its check refuses
abbrev pub paired : Meaning → Meaning → Meaning
paired a b = cond (is_short a b) (joined_sheets a b) blank
