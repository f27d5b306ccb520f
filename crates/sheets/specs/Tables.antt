-- Tables: rules as they come from outside, over a number of switches.
use Rattle.std.specs.Prelude.{ℕ, ◌+◌, cond, List, [], ◌∷◌, length, ℤ, Ok, Err, Result, nat_le}
use Rattle.rules.specs.declared.kinds.RawKind.{RawKind}
use Rattle.rules.specs.declared.faults.Layer.TheVariants as layer
use Rattle.rules.specs.declared.faults.Cause.TheVariants.{SwitchCount, RuleCount}
use Rattle.rules.specs.declared.faults.Fault.{Fault}
use Rattle.rules.specs.First.{on_ok}
use Rattle.rules.specs.Constraints.{Constraint}
use Rattle.rules.specs.Faults.{fault}
use Rattle.rules.specs.Lawful.{inside}
use Rattle.rules.specs.Checks.{checked}
use Rattle.sheets.specs.Meaning.{Meaning}

-- a rule from outside, before any check
pub record Draft : Type 0 where
  pub kind : RawKind
  pub entries : List ℤ

-- what comes next, where nothing was refused
abbrev pub then : {X Y : Type 0} → Result X Fault → (X → Result Y Fault) → Result Y Fault
then (Ok x) f = f x
then (Err e) f = Err e

-- the rules of the drafts, which k rules come before, or the fault of the first bad one
abbrev pub table_rules : ℕ → ℕ → List Draft → Result (List Constraint) Fault
table_rules n k [] = Ok []
table_rules n k (d ∷ ds) = then (checked layer.Table k n d.kind d.entries) (λ r. then (table_rules n (k + 1) ds) (λ rs. Ok (r ∷ rs)))

-- 1 to 256 switches, at most 1,024 rules
abbrev pub table_size : ℕ → ℕ → Result (Unit {0}) Fault
table_size n m = cond (inside 256 n) (cond (nat_le m 1024) (Ok tt) (Err (fault layer.Table RuleCount 1024 0))) (Err (fault layer.Table SwitchCount 0 0))

-- what rules over n switches mean
abbrev pub over : ℕ → List Constraint → Meaning
over n rs = record { switches = n; rules = rs }

-- what a table means, or why it is refused: its size, then rule by rule
abbrev pub table : ℕ → List Draft → Result Meaning Fault
table n ds = then (table_size n (length ds)) (λ _. on_ok (over n) (table_rules n 0 ds))
