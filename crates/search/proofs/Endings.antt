-- What the end of a search says of the rules.
use Rattle.std.proofs.Common.{◌≡◌, ℕ, Bool, false, not, List, Some, Ok, Err, Result, sym, refl, ap, ◌∙◌, subst}
use mathlib.Core.Logic.{∥∥₁_elim}
use mathlib.Core.HLevel.{⊥_prop}
use Rattle.std.specs.Result.{is_ok}
use Rattle.rules.specs.Settings.{Within, setting}
use Rattle.rules.specs.Constraints.{Constraint}
use Rattle.rules.specs.Rows.{Reduced}
use Rattle.search_theory.specs.Tries.{part, values, Course, found, nothing, due, step}
use Rattle.search_theory.specs.Courses.{has_ended}
use Rattle.search_theory.specs.Theorems.{Unkept, Found}
use Rattle.search_theory.proofs.Stacks.{Follows, finished, step_follows}
use Rattle.search_theory.proofs.Passing.{nothing_keeps}
use Rattle.search_theory.proofs.Finding.{found_right}
use Rattle.search.specs.declared.progress.End.{End}
use Rattle.search.specs.declared.looking.Dead.{Dead}
use Rattle.search.specs.declared.state.State.{State}
use Rattle.search.specs.Values.{part_of}
use Rattle.search.specs.Stacks.{stack_of}
use Rattle.search.specs.States.{Standing}
use Rattle.search.specs.Ends.{end_of, Tells}
use Rattle.search.proofs.Propositions.{found_prop}

lives : (d : Result (Unit {0}) Dead) → not (is_ok d) ≡ false → d ≡ Ok tt
lives (Ok u) h = refl
lives (Err d) h = absurd (cc)

module _ (n : ℕ) (rules : List Constraint) (red : Reduced n rules) (s : State) (st : Standing n rules s) where
  -- where a setting is found, what is set is the part-setting of the tries, and the values are the setting
  module _ (vs : List Bool) (e : step n rules (stack_of s.tries) ≡ found vs) where
    set_found : (part_of s.part ≡ part n rules (stack_of s.tries)) × (values n (part_of s.part) ≡ vs)
    set_found = by (step_follows n rules (stack_of s.tries) (part n rules (stack_of s.tries)) (found vs) e)
      where
        by : Follows n rules (stack_of s.tries) (part n rules (stack_of s.tries)) (found vs) → (part_of s.part ≡ part n rules (stack_of s.tries)) × (values n (part_of s.part) ≡ vs)
        by (finished d l is) = let live = st.live (lives s.forced (sym st.ended ∙ d)) in (live, ap (values n) live ∙ is)

    is_found : Found n rules (part_of s.part) vs
    is_found =
        subst (λ p. Found n rules p vs) (sym set_found.0)
        (∥∥₁_elim st.reached (found_prop n rules (part n rules (stack_of s.tries)) vs) (λ r. found_right n r.0 rules (stack_of s.tries) red r.1 vs e))

    found_values : Found n rules (part_of s.part) (values n (part_of s.part))
    found_values = subst (Found n rules (part_of s.part)) (sym set_found.1) is_found

    pub found_value : (v : ℕ) → Within n v → part_of s.part v ≡ Some (setting vs v)
    found_value v w = is_found.all_set v w

  none_keeps : step n rules (stack_of s.tries) ≡ nothing → Unkept rules
  none_keeps e t keeps = ∥∥₁_elim st.reached ⊥_prop (λ r. nothing_keeps n rules t keeps r.0 (stack_of s.tries) r.1 e)

  tells_at : (c : Course) → step n rules (stack_of s.tries) ≡ c → Tells (end_of c) n rules (part_of s.part) (step n rules (stack_of s.tries))
  tells_at (found vs) e = found_values vs e
  tells_at nothing e = none_keeps e
  tells_at (due ts) e = ap has_ended e

  pub tells : (end : End (Unit {0})) → end ≡ end_of (step n rules (stack_of s.tries)) → Tells end n rules (part_of s.part) (step n rules (stack_of s.tries))
  tells end is =
      subst (λ x. Tells x n rules (part_of s.part) (step n rules (stack_of s.tries))) (sym is) (tells_at (step n rules (stack_of s.tries)) refl)
