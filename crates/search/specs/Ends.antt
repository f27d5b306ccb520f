-- What going on with a search does, and what its end says of the rules.
use Rattle.std.specs.Prelude.{◌≡◌, ℕ, false, List}
use Rattle.rules.specs.declared.literals.Literal.{Literal}
use Rattle.rules.specs.Constraints.{Constraint}
use Rattle.search_theory.specs.Parts.{Part}
use Rattle.search_theory.specs.Tries.{values, Course, found, nothing, due}
use Rattle.search_theory.specs.Courses.{onward, tries, has_ended}
use Rattle.search_theory.specs.Theorems.{Unkept, Found}
use Rattle.search.specs.declared.progress.End.{End}
use Rattle.search.specs.declared.progress.End.TheVariants.{Spent, Found as end_found, None as end_none}
use Rattle.search.specs.declared.progress.Progress.{Progress}

abbrev pub end_of : Course → End (Unit {0})
end_of (found s) = end_found tt
end_of nothing = end_none
end_of (due ts) = Spent

-- the course went on by the budget, and this is told
pub record WentOn (next : List Literal → Course) (budget : ℕ) (before after : Course) (told : Progress (Unit {0})) : Type 0 where
  pub course : after ≡ onward next budget before
  pub tries : told.tries ≡ tries next budget before
  pub end : told.end ≡ end_of after

-- p is what is set. Found: every switch is set, and the values are the earliest setting that keeps the rules;
-- none: no setting keeps them; spent: a further try is due
abbrev pub Tells : End (Unit {0}) → ℕ → List Constraint → Part → Course → Type 0
Tells Spent n rules p c = has_ended c ≡ false
Tells (end_found x) n rules p c = Found n rules p (values n p)
Tells end_none n rules p c = Unkept rules
