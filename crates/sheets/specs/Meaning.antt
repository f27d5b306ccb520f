-- What a sheet means, and what it tells of that.
use Rattle.std.specs.Prelude.{◌≡◌, ℕ, ◌≤◌, true, List, [], length, Some, None, Ok, Err, Option, Result}
use Rattle.std.specs.List.{slice_get}
use Rattle.std.specs.Option.{option_map}
use Rattle.rules.specs.declared.literals.Literal.{Literal}
use Rattle.rules.specs.declared.kinds.Kind.{Kind}
use Rattle.rules.specs.declared.faults.Fault.{Fault}
use Rattle.rules.specs.First.{every}
use Rattle.rules.specs.Constraints.{Constraint, kind, entries}
use Rattle.rules.specs.Lawful.{lawful}

-- a number of switches, and a list of rules
pub record Meaning : Type 0 where
  pub switches : ℕ
  pub rules : List Constraint

-- at most 256 switches, at most 2,048 rules, and each rule lawful over the switches
pub record LawfulSheet (m : Meaning) : Type 0 where
  pub narrow : m.switches ≤ 256
  pub short : length m.rules ≤ 2048
  pub sound : every (lawful m.switches) m.rules ≡ true

-- no switches and no rules
abbrev pub blank : Meaning
blank = record { switches = 0; rules = [] }

-- the kind of rule i, where there is a rule i
abbrev pub told_kind : Meaning → ℕ → Option Kind
told_kind m i = option_map kind (slice_get m.rules i)

-- the entries of a rule; none, where there is no rule
abbrev pub entries_in : Option Constraint → List Literal
entries_in None = []
entries_in (Some r) = entries r

-- entry j of rule i, where there is one
abbrev pub told_entry : Meaning → ℕ → ℕ → Option Literal
told_entry m i j = slice_get (entries_in (slice_get m.rules i)) j

-- A making gives a meaning or is refused. Its check tells the fault, and the sheet that is made
-- means what the making gives, or is blank where it is refused.
abbrev pub check_of : Result Meaning Fault → Result (Unit {0}) Fault
check_of (Ok m) = Ok tt
check_of (Err f) = Err f

-- what the sheet means that is made
abbrev pub or_blank : Result Meaning Fault → Meaning
or_blank (Ok m) = m
or_blank (Err f) = blank
