-- The search is the same whatever the order of forcing.
use Rattle.std.proofs.Common.{◌≡◌, ℕ, Bool, true, false, List, sym, refl, ap, ◌∙◌, subst}
use Rattle.rules.specs.declared.literals.Literal.{Literal}
use Rattle.rules.specs.Constraints.{Constraint}
use Rattle.search_theory.specs.Parts.{Part, blank, put}
use Rattle.search_theory.specs.Forcing.{any_dead, forced, Ended, Alike, Steps, Over}
use Rattle.search_theory.specs.Tries.{part, turn, step_from, step, Reach, ForcedTo, at_first, after_try, Proper}
use Rattle.search_theory.proofs.Forcing.{steps_lie, ends_forced}
use Rattle.search_theory.proofs.Stacks.{step_turn, reach_proper}

module _ (n : ℕ) (system : List Constraint) (o : Over n system) where
  run_alike : (p q : Part) → Steps system p q → Ended system q → Alike system q (forced n system p)
  run_alike p q s e = ends_forced n system o p q (steps_lie system p q s) e

  pub parts_alike : (ts : List Literal) (q : Part) → Proper n system ts → ForcedTo system ts q → Alike system q (part n system ts)
  parts_alike ts q proper (at_first s e) = run_alike blank q s e
  parts_alike ts q proper (after_try {ts = us} {p = p} {l = l} f s e) =
      let ih = parts_alike us p proper.2 f in
      let same = ih.equal (ih.dead ∙ proper.0) in
      subst (λ x. Alike system q (forced n system (put x l))) same (run_alike (put p l) q s e)

  alike_steps : (ts : List Literal) (q p : Part) → Alike system q p → step_from n system ts q ≡ step_from n system ts p
  alike_steps ts q p a = by (any_dead q system) refl
    where
      by : (b : Bool) → any_dead q system ≡ b → step_from n system ts q ≡ step_from n system ts p
      by true d = step_turn n system ts q d (turn ts) refl ∙ sym (step_turn n system ts p (sym a.dead ∙ d) (turn ts) refl)
      by false d = ap (step_from n system ts) (a.equal d)

  pub same_search : (k : ℕ) (ts : List Literal) (q : Part) → Reach n system k ts → ForcedTo system ts q → step_from n system ts q ≡ step n system ts
  same_search k ts q r f = alike_steps ts q (part n system ts) (parts_alike ts q (reach_proper n system k ts r) f)
