-- The rule that an accepted take adds.
use Rattle.std.proofs.Common.{◌≡◌, ℕ, Bool, true, false, cond, ltb, List, length, ℤ, Some, None, Ok, Err, Option, Result, sym}
use Rattle.std.specs.Option.{option_map}
use Rattle.rules.specs.declared.kinds.Kind.{Kind}
use Rattle.rules.specs.declared.kinds.RawKind.{RawKind}
use Rattle.rules.specs.declared.faults.Layer.{Layer}
use Rattle.rules.specs.declared.faults.Layer.TheVariants as layer
use Rattle.rules.specs.declared.faults.Cause.TheVariants.{Width, MarginFull}
use Rattle.rules.specs.declared.faults.Fault.{Fault}
use Rattle.rules.specs.declared.faults.Misfit.{Misfit}
use Rattle.rules.specs.First.{verdict}
use Rattle.rules.specs.Constraints.{Constraint}
use Rattle.rules.specs.Lawful.{lawful}
use Rattle.rules.specs.Faults.{fault}
use Rattle.rules.specs.Entries.{rule_misfit, rule_of}
use Rattle.rules.specs.Checks.{as_fault, on_err, kind_of, raw_width_fits, checked_kind, checked}
use Rattle.rules.proofs.Lawfuls.{checked_lawful}
use Rattle.session_theory.specs.Session.{Session, size, most_taken, with_room, taken}

-- the rule that passes the check is the one that the kind and the entries name
checked_named : (l : Layer) (k n : ℕ) (kind : RawKind) (es : List ℤ) (r : Constraint) → checked l k n kind es ≡ Ok r → option_map (λ k. rule_of k es) (kind_of kind) ≡ Some r
checked_named l k n kind es r h = by_width (raw_width_fits kind (length es)) h
  where
    by_misfit : (k' : Kind) (o : Option Misfit) → on_err (as_fault l k) (verdict o (rule_of k' es)) ≡ Ok r → Some (rule_of k' es) ≡ Some r
    by_misfit k' None h = cc
    by_misfit k' (Some m) h = cc

    by_kind : (o : Option Kind) → checked_kind l k o n es ≡ Ok r → option_map (λ k. rule_of k es) o ≡ Some r
    by_kind None h = cc
    by_kind (Some k') h = by_misfit k' (rule_misfit k' n es) h

    by_width : (b : Bool) → cond b (checked_kind l k (kind_of kind) n es) (Err (fault l Width k 0)) ≡ Ok r → option_map (λ k. rule_of k es) (kind_of kind) ≡ Some r
    by_width true h = by_kind (kind_of kind) h
    by_width false h = cc

room_checked : (k : ℕ) (y : Result Constraint Fault) (r : Constraint) → with_room k y ≡ Ok r → y ≡ Ok r
room_checked k (Ok q) r h = by (ltb k most_taken) h
  where
    by : (b : Bool) → cond b (Ok q) (Err (fault layer.Session MarginFull 0 0)) ≡ Ok r → ◌≡◌ {A = Result Constraint Fault} (Ok q) (Ok r)
    by true h = h
    by false h = cc
room_checked k (Err f) r h = h

module _ (s : Session) (kind : RawKind) (es : List ℤ) (r : Constraint) (h : taken s kind es ≡ Ok r) where
  is_checked : checked layer.Session 0 (size s) kind es ≡ Ok r
  is_checked = room_checked (length s.margin) (checked layer.Session 0 (size s) kind es) r h

  pub taken_lawful : lawful (size s) r ≡ true
  taken_lawful = checked_lawful layer.Session 0 (size s) kind es r (sym is_checked)

  pub taken_named : option_map (λ k. rule_of k es) (kind_of kind) ≡ Some r
  taken_named = checked_named layer.Session 0 (size s) kind es r is_checked
