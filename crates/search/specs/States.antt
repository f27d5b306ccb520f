-- What a search keeps true of its state.
use Rattle.std.specs.Prelude.{◌≡◌, ℕ, ◌+◌, ◌<◌, not, List, ◌∷◌, Ok, is_ok}
use Rattle.rules.specs.declared.literals.Literal.{Literal}
use Rattle.rules.specs.Constraints.{Constraint}
use Rattle.search_theory.specs.Forcing.{any_dead}
use Rattle.search_theory.specs.Tries.{part, Reach}
use Rattle.search.specs.declared.state.State.{State}
use Rattle.search.specs.Values.{part_of, upto}
use Rattle.search.specs.Stacks.{stack, stack_of}

-- the search comes to these tries
abbrev pub Reached : ℕ → List Constraint → List Literal → Type 0
Reached n rules ts = ∥ ((k : ℕ) × Reach n rules k ts) ∥₁

-- the level is the count of tries; at each level below it, what was set up to it is the part-setting of the tries up to it
pub record Standing (n : ℕ) (rules : List Constraint) (s : State) : Type 0 where
  pub reached : Reached n rules (stack_of s.tries)
  pub level : s.part.level ≡ s.tries.count
  pub below : (i : ℕ) → i < s.tries.count → upto s.part i ≡ part n rules (stack s.tries.table i)
  pub top : upto s.part s.tries.count ≡ part_of s.part
  pub ended : any_dead (part n rules (stack_of s.tries)) rules ≡ not (is_ok s.forced)
  pub live : s.forced ≡ Ok tt → part_of s.part ≡ part n rules (stack_of s.tries)

-- l is the latest try, at the index that the level is, and what is set is the part-setting of the tries before it
pub record Ready (n : ℕ) (rules : List Constraint) (l : Literal) (s : State) : Type 0 where
  pub count : s.tries.count ≡ s.part.level + 1
  pub latest : stack_of s.tries ≡ l ∷ stack s.tries.table s.part.level
  pub reached : Reached n rules (l ∷ stack s.tries.table s.part.level)
  pub below : (i : ℕ) → i < s.part.level → upto s.part i ≡ part n rules (stack s.tries.table i)
  pub here : part_of s.part ≡ part n rules (stack s.tries.table s.part.level)
  pub top : upto s.part s.part.level ≡ part_of s.part
