-- What the calls of a session do, as the definitions have it.
use Rattle.std.specs.Prelude.{◌≡◌, ℕ, ◌∷◌, length, Result}
use Rattle.rules.specs.declared.faults.Layer.TheVariants as layer
use Rattle.rules.specs.declared.faults.Fault.{Fault}
use Rattle.rules.specs.First.{on_ok}
use Rattle.rules.specs.Constraints.{Constraint}
use Rattle.rules.specs.Checks.{checked}
use Rattle.sheets.specs.Meaning.{Meaning, LawfulSheet}
use Rattle.search_theory.specs.Tries.{Course}
use Rattle.search_theory.specs.Courses.{onward, tries}
use Rattle.search.specs.declared.progress.Progress.{Progress}
use Rattle.session_theory.specs.Session.{Session, Entry, Reply, size, with_room, after_take, next_of, course, end_at, at_course}
use Rattle.session_theory.specs.Law.{History, Recorded, Lawful}
use Rattle.session.specs.declared.events.Event.{Event}
use Rattle.session.specs.declared.events.Event.TheVariants.{Take, Settle}
use Rattle.session.specs.declared.events.Answer.{Answer}
use Rattle.session.specs.declared.events.Answer.TheVariants.{Took, Settled}
use Rattle.session.specs.declared.ends.Setting.{Setting}
use Rattle.session.specs.Ends.{end_in}

-- whatever was called before on the session s, which the call x leaves as t: the history goes on, and all of it is lawful
unfoldable pub GoesOn : Session → Entry → Session → Type 0
GoesOn s x t = (m : Meaning) → LawfulSheet m → (h : History) → Recorded m h s → Recorded m (x ∷ h) t × Lawful m (x ∷ h)

-- the search went on from the course c by the budget, and this is told
pub record Went (s : Session) (c : Course) (b : ℕ) (told : Progress Setting) (t : Session) : Type 0 where
  pub end : end_in told.end ≡ end_at (onward (next_of s) b c)
  pub tries : told.tries ≡ tries (next_of s) b c
  pub leaves : t ≡ at_course s (onward (next_of s) b c)

-- a take whose check gave the rule or a fault: its reply, and the session that it leaves
pub record Admitted (s : Session) (rule : Result Constraint Fault) (reply : Reply) (t : Session) : Type 0 where
  pub replies : reply ≡ on_ok (λ _. tt) (with_room (length s.margin) rule)
  pub leaves : t ≡ after_take s (with_room (length s.margin) rule)

-- what an event does
abbrev pub Answers : Session → Event → Answer → Session → Type 0
Answers s (Take kind es) (Took r) t = Admitted s (checked layer.Session 0 (size s) kind es.now) r t
Answers s (Settle b) (Settled told) t = Went s (course s) b told t
Answers s _ _ t = ⊥
