-- What the standing of a session says of its search.
use Rattle.std.specs.Prelude.{◌≡◌, ℕ, List, Some}
use Rattle.rules.specs.Constraints.{Constraint}
use Rattle.parity_theory.specs.Reducing.{rows}
use Rattle.parity.specs.declared.reduction.Reduction.{Reduction}
use Rattle.parity.specs.Reductions.{rows_told}
use Rattle.search_theory.specs.Tries.{Course, nothing}
use Rattle.search.specs.declared.progress.End.{End}
use Rattle.search.specs.declared.progress.End.TheVariants as end
use Rattle.search.specs.declared.search.Search.{Search}
use Rattle.search.specs.declared.system.System.{System}
use Rattle.search.specs.Moves.{rules_of}
use Rattle.search.specs.Ends.{end_of}
use Rattle.search.specs.Searches.{course_of}
use Rattle.session_theory.specs.System.{system}
use Rattle.session_theory.specs.Session as theory
use Rattle.session.specs.declared.phases.Phase.{Phase}
use Rattle.session.specs.declared.phases.Phase.TheVariants as phase

-- the reduction tells the rows of the rules over n switches
abbrev pub Reduces : ℕ → List Constraint → Reduction → Type 0
Reduces n rules r = rows_told r ≡ rows n rules

-- the system is that of the rules over n switches
pub record Over (n : ℕ) (rules : List Constraint) (held : System) : Type 0 where
  pub size : held.switches ≡ n
  pub same : system n rules ≡ Some (rules_of held)

-- the search is over that system, and stands at such an end
pub record Stands (e : End (Unit {0})) (n : ℕ) (rules : List Constraint) (s : Search) : Type 0 where
  pub over : Over n rules s.system
  pub ends : end_of (course_of s) ≡ e

-- underway and found, the search is over the system of the rules and at such an end; otherwise it says nothing
abbrev pub Tells : Phase → ℕ → List Constraint → Search → Type 0
Tells phase.Fresh n rules s = Unit {0}
Tells phase.Underway n rules s = Stands end.Spent n rules s
Tells phase.Found n rules s = Stands (end.Found tt) n rules s
Tells phase.None n rules s = Unit {0}

-- the standing, as the definitions have it
abbrev pub standing_of : Phase → Course → theory.Standing
standing_of phase.Fresh c = theory.fresh
standing_of phase.Underway c = theory.searched c
standing_of phase.Found c = theory.searched c
standing_of phase.None c = theory.searched nothing

-- the standing at an end of the search
abbrev pub phase_at : End (Unit {0}) → Phase
phase_at end.Spent = phase.Underway
phase_at (end.Found x) = phase.Found
phase_at end.None = phase.None
