-- The check of one rule that comes from outside, from a layer that counts rules.
use Rattle.std.specs.Prelude.{ℕ, Bool, cond, List, length, ℤ, Some, None, Ok, Err, Option, Result}
use Rattle.rules.specs.declared.kinds.Side.{Side}
use Rattle.rules.specs.declared.kinds.Side.TheVariants.{Even}
use Rattle.rules.specs.declared.kinds.Kind.{Kind}
use Rattle.rules.specs.declared.kinds.Kind.TheVariants.{Clause, Parity}
use Rattle.rules.specs.declared.kinds.NoSide.{NoSide}
use Rattle.rules.specs.declared.kinds.RawKind.{RawKind}
use Rattle.rules.specs.declared.kinds.RawKind.TheVariants as raw
use Rattle.rules.specs.declared.faults.Layer.{Layer}
use Rattle.rules.specs.declared.faults.Cause.TheVariants.{Width, Entry}
use Rattle.rules.specs.declared.faults.Fault.{Fault}
use Rattle.rules.specs.declared.faults.Misfit.{Misfit}
use Rattle.rules.specs.First.{on_ok}
use Rattle.rules.specs.Constraints.{Constraint}
use Rattle.rules.specs.Lawful.{width_fits}
use Rattle.rules.specs.Faults.{fault}
use Rattle.rules.specs.Entries.{side_numbered, side_or_none, built}

-- what is wrong with a rule, as a fault of a layer: the place is the index of the entry
abbrev pub as_fault : Layer → ℕ → Misfit → Fault
as_fault l k m = fault l m.cause k m.index

-- a result with its fault seen through f
abbrev pub on_err : {X E F : Type 0} → (E → F) → Result X E → Result X F
on_err f (Ok x) = Ok x
on_err f (Err e) = Err (f e)

-- a parity rule of the side, where there is one
abbrev pub parity_with : Option Side → Option Kind
parity_with (Some side) = Some (Parity side)
parity_with None = None

-- the kind that is meant, absent where the side is none
abbrev pub kind_of : RawKind → Option Kind
kind_of raw.Clause = Some Clause
kind_of (raw.Parity number) = parity_with (side_numbered number)

-- the same, or the number that is no side
abbrev pub kind_or_none : RawKind → Result Kind NoSide
kind_or_none raw.Clause = Ok Clause
kind_or_none (raw.Parity number) = on_ok Parity (side_or_none number)

-- the width fits the kind, whatever the number for its side
abbrev pub raw_width_fits : RawKind → ℕ → Bool
raw_width_fits raw.Clause w = width_fits Clause w
raw_width_fits (raw.Parity number) w = width_fits (Parity Even) w

-- the rule of the kind, or its fault; a kind with no side is refused at place 0
abbrev pub checked_kind : Layer → ℕ → Option Kind → ℕ → List ℤ → Result Constraint Fault
checked_kind l k None n es = Err (fault l Entry k 0)
checked_kind l k (Some kind) n es = on_err (as_fault l k) (built kind n es)

-- width, then side, then the entries from the first to the last; k rules come before
abbrev pub checked : Layer → ℕ → ℕ → RawKind → List ℤ → Result Constraint Fault
checked l k n kind es = cond (raw_width_fits kind (length es)) (checked_kind l k (kind_of kind) n es) (Err (fault l Width k 0))
