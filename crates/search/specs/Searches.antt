-- The course of a search, what it shows of the switches, and what is next.
use Rattle.std.specs.Prelude.{◌≡◌, ◌<◌, List, ◌∷◌, Ok, Err, Result, slice_index_or}
use Rattle.rules.specs.declared.literals.Literal.{Literal}
use Rattle.rules.specs.Constraints.{positive}
use Rattle.search_theory.specs.Parts.{Part}
use Rattle.search_theory.specs.Tries.{values, Course, found, nothing, due, step, negative}
use Rattle.search.specs.declared.progress.End.{End}
use Rattle.search.specs.declared.progress.End.TheVariants.{Spent, Found, None}
use Rattle.search.specs.declared.search.Search.{Search}
use Rattle.search.specs.declared.searching.Due.{Due}
use Rattle.search.specs.declared.searching.Due.TheVariants.{Add, Turn}
use Rattle.search.specs.declared.state.State.{State}
use Rattle.search.specs.Values.{part_of}
use Rattle.search.specs.Moves.{rules_of}
use Rattle.search.specs.Stacks.{no_try, stack, stack_of}

abbrev pub course_of : Search → Course
course_of s = step s.system.switches (rules_of s.system) (stack_of s.state.tries)

-- what is set
abbrev pub shown : Search → Part
shown s = part_of s.state.part

-- the tries once the one that is due is made
abbrev pub made_stack : Due → State → List Literal
made_stack (Add v) s = negative v ∷ stack_of s.tries
made_stack (Turn at) s = positive (slice_index_or s.tries.table at no_try).switch ∷ stack s.tries.table at

-- a try at off is made where nothing is dead, and a turn is that of a try that stands
abbrev pub Fits : Due → State → Type 0
Fits (Add v) s = s.forced ≡ Ok tt
Fits (Turn at) s = at < s.tries.count

pub record Makes (d : Due) (s : Search) : Type 0 where
  pub fits : Fits d s.state
  pub follows : course_of s ≡ due (made_stack d s.state)

-- what is next is the definition's step
abbrev pub Nexts : Result Due (End (Unit {0})) → Search → Type 0
Nexts (Ok d) s = Makes d s
Nexts (Err Spent) s = ⊥
Nexts (Err (Found x)) s = course_of s ≡ found (values s.system.switches (shown s))
Nexts (Err None) s = course_of s ≡ nothing
