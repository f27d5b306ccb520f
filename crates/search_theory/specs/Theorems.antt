-- What is proved of forcing and of the search.
use Rattle.std.specs.Prelude.{◌≡◌, ℕ, ◌+◌, ◌<◌, ◌≤◌, Bool, true, false, ◌↔◌, List, ◌∷◌, ◌++◌, length, Some, None}
use Rattle.rules.specs.declared.literals.Literal.{Literal}
use Rattle.rules.specs.declared.kinds.Side.{Side}
use Rattle.rules.specs.Settings.{Setting, Within, setting}
use Rattle.rules.specs.Constraints.{Constraint, clause, parity, kept, switches, Each, Keeps, Earliest}
use Rattle.rules.specs.Rows.{Reduced}
use Rattle.search_theory.specs.Parts.{Part, full, SetBut, Extends}
use Rattle.search_theory.specs.Forcing.{all_broken, says, dead, said, forced, Still, Lies, Ended, Alike, Forces, Steps, Over}
use Rattle.search_theory.specs.Tries.{part, Course, found, nothing, due, step_from, step, Reach, ForcedTo, Passed, limit}
use Rattle.search_theory.specs.Courses.{onward, tries, after, made, has_ended}

-- no setting keeps all rules
abbrev pub Unkept : List Constraint → Type 0
Unkept system = (s : Setting) → Keeps system s → ⊥

-- what a rule forces, and that the order of forcing changes nothing
pub record ForcingSettled : Type 0 where
  -- a clause whose literals are broken but for one, which is unset, forces that one
  pub clause_forces : (p : Part) (ls ms : List Literal) (l : Literal) → all_broken p ls ≡ true → all_broken p ms ≡ true → p l.switch ≡ None → says p (clause (ls ++ (l ∷ ms))) ≡ Some l
  -- a row whose switches are set but for one forces that one to the value that keeps the row
  pub row_forces : (p : Part) (vs ws : List ℕ) (v : ℕ) (side : Side) (s : Setting) → Each (λ w. p w ≡ Some (s w)) vs → Each (λ w. p w ≡ Some (s w)) ws → p v ≡ None
      → kept s (parity (vs ++ (v ∷ ws)) side) ≡ true → says p (parity (vs ++ (v ∷ ws)) side) ≡ Some (record { switch = v; on = s v })
  -- what a rule forces was unset, and all its other switches are set: it forces one at a time
  pub was_unset : (p : Part) (r : Constraint) (l : Literal) → says p r ≡ Some l → p l.switch ≡ None
  pub others_set : (p : Part) (r : Constraint) (l : Literal) → says p r ≡ Some l → Each (SetBut p l.switch) (switches r)
  -- a setting that has what is set and keeps the rule has what the rule forces; where the rule is dead there is none
  pub follows : (p : Part) (r : Constraint) (l : Literal) → says p r ≡ Some l → (s : Setting) → Extends p (full s) → kept s r ≡ true → s l.switch ≡ l.on
  pub dead_breaks : (p : Part) (r : Constraint) → dead p r ≡ true → (s : Setting) → Extends p (full s) → kept s r ≡ false
  -- nothing is said where no rule forces anything
  pub quiet : (p : Part) (system : List Constraint) → (said p system ≡ None) ↔ ((l : Literal) → Forces system p l → ⊥)
  -- a setting that keeps all rules is a still part-setting
  pub keeping_still : (s : Setting) (system : List Constraint) → Keeps system s → Still system (full s)
  -- two runs of single steps that go no further end alike
  pub runs_alike : (system : List Constraint) (p a b : Part) → Steps system p a → Ended system a → Steps system p b → Ended system b → Alike system a b
  -- the function is such a run
  pub forced_runs : (n : ℕ) (system : List Constraint) → Over n system → (p : Part) → Steps system p (forced n system p) × Ended system (forced n system p)
  -- whatever lies above p as forcing does, and goes no further, ends as the function does
  pub ends_forced : (n : ℕ) (system : List Constraint) → Over n system → (p q : Part) → Lies system p q → Ended system q → Alike system q (forced n system p)
  -- so does the search: the same tries and the same end, whatever the order of forcing after each try
  pub same_search : (n k : ℕ) (system : List Constraint) → Over n system → (ts : List Literal) (q : Part) → Reach n system k ts → ForcedTo system ts q → step_from n system ts q ≡ step n system ts

-- what a search has found where it ended at p with the values s
pub record Found (n : ℕ) (system : List Constraint) (p : Part) (s : List Bool) : Type 0 where
  pub long : length s ≡ n
  pub all_set : (v : ℕ) → Within n v → p v ≡ Some (setting s v)
  pub earliest : Earliest n system (setting s)

-- where the search ends it is right, and before that no setting that keeps the rules is passed
pub record EndsRight : Type 0 where
  pub at_found : (n k : ℕ) (system : List Constraint) (ts : List Literal) (s : List Bool) → Reduced n system → Reach n system k ts → step n system ts ≡ found s → Found n system (part n system ts) s
  pub at_nothing : (n k : ℕ) (system : List Constraint) (ts : List Literal) → Reach n system k ts → step n system ts ≡ nothing → Unkept system
  pub none_passed : (n k : ℕ) (system : List Constraint) (ts : List Literal) → Reach n system k ts → (s : Setting) → Keeps system s → Passed s ts → ⊥

-- the tries are bounded, and while a further one is due there were fewer
pub record TriesBounded : Type 0 where
  pub most : (n k : ℕ) (system : List Constraint) (ts : List Literal) → Reach n system k ts → k ≤ limit n system
  pub fewer : (n k : ℕ) (system : List Constraint) (ts us : List Literal) → Reach n system k ts → step n system ts ≡ due us → k < limit n system

-- what the course after t tries tells
abbrev pub Told : ℕ → List Constraint → ℕ → Course → Type 0
Told n system t (found s) = (length s ≡ n) × Earliest n system (setting s)
Told n system t nothing = Unkept system
Told n system t (due ts) = t < limit n system

-- courses are right, and a search that was stopped and taken up again is the one search with the budgets added
pub record CoursesRight : Type 0 where
  pub tells : (n : ℕ) (system : List Constraint) → Reduced n system → (t : ℕ) → Told n system t (after n (Some system) t)
  pub made_most : (n : ℕ) (system : List Constraint) (t : ℕ) → made n (Some system) t ≤ limit n system
  pub ends : (n : ℕ) (system : List Constraint) (t : ℕ) → limit n system ≤ t → has_ended (after n (Some system) t) ≡ true
  pub absent : (n t : ℕ) → after n None t ≡ nothing
  pub ended_stays : (next : List Literal → Course) (b : ℕ) (c : Course) → has_ended c ≡ true → (onward next b c ≡ c) × (tries next b c ≡ 0)
  pub courses_join : (next : List Literal → Course) (a b : ℕ) (c : Course) → onward next b (onward next a c) ≡ onward next (a + b) c
  pub tries_add : (next : List Literal → Course) (a b : ℕ) (c : Course) → tries next a c + tries next b (onward next a c) ≡ tries next (a + b) c
  pub within_budget : (next : List Literal → Course) (b : ℕ) (c : Course) → tries next b c ≤ b
  pub all_made : (next : List Literal → Course) (b : ℕ) (c : Course) → has_ended (onward next b c) ≡ false → tries next b c ≡ b
