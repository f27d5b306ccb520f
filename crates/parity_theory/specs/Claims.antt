-- What is proved of recovery, reduction and the count of settings.
use Rattle.std.specs.Prelude.{◌≡◌, ℕ, ◌%◌, ◌^◌, ◌≤◌, Bool, true, false, ◌↔◌, List, [], ◌∷◌, ◌++◌, map, length, Some, None}
use Rattle.rules.specs.declared.kinds.Side.{Side}
use Rattle.rules.specs.First.{every}
use Rattle.rules.specs.Settings.{Setting}
use Rattle.rules.specs.Constraints.{Constraint, clause, parity, odd_on, kept, Each, SomeOf, Keeps}
use Rattle.rules.specs.Lawful.{lawful}
use Rattle.rules.specs.Rows.{free, tally, Reduced}
use Rattle.parity_theory.specs.Standing.{Recovered, IsRecovered, KeepsParities}
use Rattle.parity_theory.specs.Equations.{Equation, equation}
use Rattle.parity_theory.specs.Writing.{written_out}
use Rattle.parity_theory.specs.Recovering.{clauses, named, equations_of, recover, parities}
use Rattle.parity_theory.specs.Reducing.{reduce, rows, freedom}
use Rattle.parity_theory.specs.Counting.{Exactly, number_on}

-- each rule is lawful over n switches
abbrev pub LawfulRules : ℕ → List Constraint → Type 0
LawfulRules n rules = every (lawful n) rules ≡ true

-- what decides whether a parity rule is kept is the number of its switches that are on
abbrev pub OddOnCounts : Type 0
OddOnCounts = (s : Setting) (vs : List ℕ) → (odd_on s vs ≡ true) ↔ (number_on s vs % 2 ≡ 1)

-- the equation of a recovered rule
abbrev pub OfRecovered : ℕ → List Constraint → Equation → Type 0
OfRecovered n rules e = (vs : List ℕ) × (side : Side) × IsRecovered n rules vs side × (e ≡ equation n vs side)

-- recovery, as it is computed, is what the words say, and regains a rule that was written out
pub record RecoveryRight : Type 0 where
  -- what keeps the clauses keeps the recovered rules
  pub sound :
      (rules : List Constraint) (s : Setting) → Keeps (map clause (clauses rules)) s →
      (vs : List ℕ) (side : Side) → Recovered rules vs side → kept s (parity vs side) ≡ true
  -- a parity rule is found exactly where it is recovered
  pub exact :
      (n : ℕ) (rules : List Constraint) → LawfulRules n rules →
      (vs : List ℕ) (side : Side) → lawful n (parity vs side) ≡ true →
      SomeOf (λ e. e ≡ equation n vs side) (recover n rules) ↔ IsRecovered n rules vs side
  -- and nothing else is found
  pub only : (n : ℕ) (rules : List Constraint) → LawfulRules n rules → Each (OfRecovered n rules) (recover n rules)
  -- a rule that is written out is kept by the same settings
  pub written : (vs : List ℕ) (side : Side) (s : Setting) → Keeps (map clause (written_out vs side)) s ↔ (kept s (parity vs side) ≡ true)
  -- and what is recovered from its clauses is that rule and no other
  pub regained :
      (n : ℕ) (vs : List ℕ) (side : Side) → lawful n (parity vs side) ≡ true → length vs ≤ 5 →
      recover n (map clause (written_out vs side)) ≡ equation n vs side ∷ []
  -- whatever other rules stand beside its clauses, and in whatever order, the rule is recovered
  pub among :
      (n : ℕ) (vs : List ℕ) (side : Side) → lawful n (parity vs side) ≡ true → length vs ≤ 5 → (rules : List Constraint) →
      Each (λ c. SomeOf (λ r. r ≡ clause c) rules) (written_out vs side) → IsRecovered n rules vs side

-- the rule is no clause
abbrev pub is_parity : Constraint → Bool
is_parity (clause ls) = false
is_parity (parity vs side) = true

-- each rule of the one is a rule of the other
abbrev pub SameRules : List Constraint → List Constraint → Type 0
SameRules rs qs = Each (λ r. SomeOf (λ q. r ≡ q) qs) rs × Each (λ q. SomeOf (λ r. q ≡ r) rs) qs

-- no setting keeps the parity rules that stand
abbrev pub NoneKeeps : ℕ → List Constraint → Type 0
NoneKeeps n rules = (s : Setting) → KeepsParities n rules s → ⊥

-- the rows are the one reduced system that the same settings keep as the parity rules that stand
pub record ReductionRight : Type 0 where
  -- what keeps the rules keeps the parity rules that stand
  pub implied : (n : ℕ) (rules : List Constraint) (s : Setting) → Keeps rules s → KeepsParities n rules s
  -- the rows are a reduced system
  pub reduced :
      (n : ℕ) (rules rs : List Constraint) → LawfulRules n rules → rows n rules ≡ Some rs →
      Reduced n rs × (every is_parity rs ≡ true)
  -- which the same settings keep
  pub same_settings :
      (n : ℕ) (rules rs : List Constraint) → LawfulRules n rules → rows n rules ≡ Some rs →
      (s : Setting) → KeepsParities n rules s ↔ Keeps rs s
  -- there are none exactly where no setting keeps the parity rules
  pub contradiction : (n : ℕ) (rules : List Constraint) → LawfulRules n rules → (rows n rules ≡ None) ↔ NoneKeeps n rules
  -- no other reduced system is kept by the same settings
  pub single :
      (n : ℕ) (rs qs : List Constraint) → every is_parity rs ≡ true → every is_parity qs ≡ true →
      Reduced n rs → Reduced n qs → ((s : Setting) → Keeps rs s ↔ Keeps qs s) → SameRules rs qs
  -- an equation that comes again adds no row
  pub repeats : (n : ℕ) (rules : List Constraint) → reduce (named n rules ++ equations_of n (clauses rules)) ≡ reduce (parities n rules)
  -- switches that are in no rule change no row
  pub wider : (n m : ℕ) → n ≤ m → (rules : List Constraint) → LawfulRules n rules → rows m rules ≡ rows n rules

-- the freedom counts the free switches, and with it the settings that keep the parity rules
pub record FreedomRight : Type 0 where
  -- with f free switches, 2^f settings keep the parity rules that stand
  pub counts :
      (n f : ℕ) (rules : List Constraint) → LawfulRules n rules → freedom n rules ≡ Some f →
      Exactly n (2 ^ f) (KeepsParities n rules)
  -- f is the number of switches that are free in the rows
  pub free_switches :
      (n : ℕ) (rules rs : List Constraint) → LawfulRules n rules → rows n rules ≡ Some rs →
      freedom n rules ≡ Some (tally (free rs) n)
  -- it is absent exactly where no setting keeps the parity rules
  pub contradiction : (n : ℕ) (rules : List Constraint) → LawfulRules n rules → (freedom n rules ≡ None) ↔ NoneKeeps n rules
