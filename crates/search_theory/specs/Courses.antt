-- The course of a search with a budget of tries.
use Rattle.std.specs.Prelude.{ℕ, zero, suc, Bool, true, false, List, [], Some, None, Option}
use Rattle.rules.specs.declared.literals.Literal.{Literal}
use Rattle.rules.specs.Constraints.{Constraint}
use Rattle.search_theory.specs.Tries.{Course, found, nothing, due, step}

-- what follows the tries ts; the system is absent where the parity rules contradict each other
abbrev pub next_in : ℕ → Option (List Constraint) → List Literal → Course
next_in n None ts = nothing
next_in n (Some system) ts = step n system ts

-- b tries on, or up to the end
abbrev pub onward : (List Literal → Course) → ℕ → Course → Course
onward next b (found s) = found s
onward next b nothing = nothing
onward next zero (due ts) = due ts
onward next (suc b) (due ts) = onward next b (next ts)

-- how many tries are made on the way
abbrev pub tries : (List Literal → Course) → ℕ → Course → ℕ
tries next b (found s) = 0
tries next b nothing = 0
tries next zero (due ts) = 0
tries next (suc b) (due ts) = suc (tries next b (next ts))

-- the course before the first try
abbrev pub begin : ℕ → Option (List Constraint) → Course
begin n system = next_in n system []

-- the course after t tries, or at the end before that
abbrev pub after : ℕ → Option (List Constraint) → ℕ → Course
after n system t = onward (next_in n system) t (begin n system)

-- how many of t tries are made
abbrev pub made : ℕ → Option (List Constraint) → ℕ → ℕ
made n system t = tries (next_in n system) t (begin n system)

-- the search has found a setting or ended with nothing
abbrev pub has_ended : Course → Bool
has_ended (found s) = true
has_ended nothing = true
has_ended (due ts) = false
