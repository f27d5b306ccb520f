-- What going on with the search does to a session.
use Rattle.std.proofs.Common.{◌≡◌, ℕ, List, take, drop, Some, sym, refl, ap, ◌∙◌, ap₂}
use Rattle.std.proofs.lemmas.List.{take-append-drop}
use Rattle.rules.specs.Constraints.{Constraint}
use Rattle.search_theory.specs.Tries.{Course, found, nothing, due}
use Rattle.search_theory.specs.Courses.{next_in, onward, tries}
use Rattle.search.specs.declared.progress.Progress.{Progress}
use Rattle.search.specs.declared.system.System.{System}
use Rattle.search.specs.Moves.{rules_of}
use Rattle.search.specs.Ends.{end_of, WentOn}
use Rattle.session_theory.specs.System.{system}
use Rattle.session_theory.specs.Session as theory
use Rattle.session_theory.specs.Session.{searched, next_of, end_at, joined}
use Rattle.session.specs.declared.phases.Phase.{Phase}
use Rattle.session.specs.declared.ends.Setting.{Setting}
use Rattle.session.specs.Phases.{Over, standing_of, phase_at}
use Rattle.session.specs.Ends.{end_in}
use Rattle.session.specs.Sessions.{session_from}
use Rattle.session.specs.Calls.{Went}

standing_at : (c : Course) → standing_of (phase_at (end_of c)) c ≡ searched c
standing_at (found vs) = refl
standing_at nothing = refl
standing_at (due ts) = refl

module _ (n k : ℕ) (rules : List Constraint) (p : Phase) (c : Course) where
  -- the search over the system that is held is that of the session
  next_held : (held : System) → Over n rules held → next_of (session_from n rules k p c) ≡ next_in held.switches (Some (rules_of held))
  next_held held over =
      ap (λ rs. next_in n (system n rs)) (take-append-drop k rules) ∙ ap₂ next_in (sym over.size) over.same

  pub went_on :
      (held : System) → Over n rules held → (b : ℕ) (from to : Course) (progress : Progress (Unit {0})) → WentOn (next_in held.switches (Some (rules_of held))) b from to progress →
      (r : Progress Setting) → end_in r.end ≡ end_at to → r.tries ≡ progress.tries → (q : Phase) → q ≡ phase_at progress.end → Went (session_from n rules k p c) from b r (session_from n rules k q to)
  went_on held over b from to progress went r ends made q is =
      let next = next_held held over in
      let same : to ≡ onward (next_of (session_from n rules k p c)) b from = went.course ∙ ap (λ f. onward f b from) (sym next) in
      let stands : standing_of q to ≡ searched to = ap (λ x. standing_of x to) (is ∙ ap phase_at went.end) ∙ standing_at to in
      record {
        end = ends ∙ ap end_at same;
        tries = made ∙ went.tries ∙ ap (λ f. tries f b from) (sym next);
        leaves = ap (λ (x : theory.Standing). record { sheet = record { switches = n; rules = take k rules }; margin = drop k rules; standing = x }) (stands ∙ ap searched same);
      }
