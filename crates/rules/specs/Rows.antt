-- Systems of clauses and rows, as the search works on them. A row is a parity rule that lists its switches
-- from its dependent, which is its highest switch, down; the dependent of a row is in no other row.
use Rattle.std.specs.Prelude.{◌≡◌, ℕ, zero, suc, ◌+◌, ◌<◌, ◌≤◌, Bool, true, false, not, ◌&&◌, List, [], ◌∷◌, ◌==◌}
use Rattle.rules.specs.Settings.{Within}
use Rattle.rules.specs.Constraints.{Constraint, clause, parity, Each}

-- v is the dependent of the rule
abbrev pub is_dependent : ℕ → Constraint → Bool
is_dependent v (clause ls) = false
is_dependent v (parity [] side) = false
is_dependent v (parity (d ∷ vs) side) = d == v

-- v is free: the dependent of no row
abbrev pub free : List Constraint → ℕ → Bool
free [] v = true
free (r ∷ rs) v = not (is_dependent v r) && free rs v

-- 1 for true, 0 for false
abbrev pub bit : Bool → ℕ
bit true = 1
bit false = 0

-- how many of the switches 1 to n pass a test
abbrev pub tally : (ℕ → Bool) → ℕ → ℕ
tally t zero = 0
tally t (suc n) = tally t n + bit (t (suc n))

-- each is lower than the one before it, and the first is lower than b
abbrev pub Falling : ℕ → List ℕ → Type 0
Falling b [] = Unit {0}
Falling b (v ∷ vs) = (v < b) × Falling v vs

-- a rule of a reduced system: a clause over the n switches, or a row whose switches but the dependent are free
abbrev pub Member : ℕ → List Constraint → Constraint → Type 0
Member n system (clause ls) = Each (λ l. Within n l.switch) ls
Member n system (parity [] side) = ⊥
Member n system (parity (d ∷ vs) side) = Within n d × Falling d vs × Each (λ v. (1 ≤ v) × (free system v ≡ true)) vs

-- no switch is the dependent of two rows
abbrev pub Apart : List Constraint → Type 0
Apart [] = Unit {0}
Apart (clause ls ∷ rs) = Apart rs
Apart (parity [] side ∷ rs) = Apart rs
Apart (parity (d ∷ vs) side ∷ rs) = (free rs d ≡ true) × Apart rs

-- clauses and rows over n switches, each dependent in one row only
pub record Reduced (n : ℕ) (system : List Constraint) : Type 0 where
  pub members : Each (Member n system) system
  pub apart : Apart system
