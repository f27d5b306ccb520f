-- Rules from outside: numbers for entries, and a number for a side.
use Rattle.std.specs.Prelude.{ℕ, suc, Bool, true, false, cond, not, ◌&&◌, List, map, length, ℤ, pos, negsuc, Some, None, Option, Result, ◌==◌, nat_eq, slice_index_or}
use Rattle.rules.specs.declared.literals.Literal.{Literal}
use Rattle.rules.specs.declared.kinds.Side.{Side}
use Rattle.rules.specs.declared.kinds.Side.TheVariants.{Even, Odd}
use Rattle.rules.specs.declared.kinds.NoSide.{NoSide}
use Rattle.rules.specs.declared.kinds.Kind.{Kind}
use Rattle.rules.specs.declared.kinds.Kind.TheVariants.{Clause, Parity}
use Rattle.rules.specs.declared.faults.Cause.TheVariants.{Width, Entry, Repeat}
use Rattle.rules.specs.declared.faults.Misfit.{Misfit}
use Rattle.rules.specs.First.{first_of, some_below, unless, verdict, or_error}
use Rattle.rules.specs.Constraints.{Constraint, clause, parity, switch_of}
use Rattle.rules.specs.Lawful.{width_fits, inside}
use Rattle.rules.specs.Faults.{misfit}

-- the entry v names the literal that v on keeps, -v the one that v off keeps
abbrev pub literal : ℤ → Literal
literal (pos v) = record { switch = v; on = true }
literal (negsuc v) = record { switch = suc v; on = false }

-- the switch that an entry names, under either sign
abbrev pub named_switch : ℤ → ℕ
named_switch e = switch_of (literal e)

-- a parity rule names switches and negates none
abbrev pub sign_fits : Kind → Literal → Bool
sign_fits Clause l = true
sign_fits (Parity side) l = l.on

-- a literal that a rule of the kind may have over n switches
abbrev pub literal_fits : Kind → ℕ → Literal → Bool
literal_fits k n l = inside n l.switch && sign_fits k l

-- an entry before the i-th names the switch v
abbrev pub named : List ℤ → ℕ → ℕ → Bool
named es v i = some_below (λ j. nat_eq (named_switch (slice_index_or es j (pos 0))) v) i

-- what is wrong with entry i: it is 0, past n or negative in a parity rule; then, its switch was named before
abbrev pub entry_misfit : Kind → ℕ → List ℤ → ℕ → Option Misfit
entry_misfit k n es i =
    unless (literal_fits k n (literal (slice_index_or es i (pos 0)))) (misfit Entry i)
    (unless (not (named es (named_switch (slice_index_or es i (pos 0))) i)) (misfit Repeat i) None)

-- the first entry at fault
abbrev pub entries_misfit : Kind → ℕ → List ℤ → Option Misfit
entries_misfit k n es = first_of (entry_misfit k n es) (length es)

-- what is wrong with a rule: its width, then its entries from the first to the last
abbrev pub rule_misfit : Kind → ℕ → List ℤ → Option Misfit
rule_misfit k n es = unless (width_fits k (length es)) (misfit Width 0) (entries_misfit k n es)

-- the rule that entries are
abbrev pub rule_of : Kind → List ℤ → Constraint
rule_of Clause es = clause (map literal es)
rule_of (Parity side) es = parity (map named_switch es) side

-- the rule, or what is wrong with it
abbrev pub built : Kind → ℕ → List ℤ → Result Constraint Misfit
built k n es = verdict (rule_misfit k n es) (rule_of k es)

-- side 0 is even, side 1 is odd
abbrev pub side_numbered : ℕ → Option Side
side_numbered b = cond (b == 0) (Some Even) (cond (b == 1) (Some Odd) None)

-- the same, or the number that is none
abbrev pub side_or_none : ℕ → Result Side NoSide
side_or_none b = or_error (side_numbered b) (record { 0 = b })
