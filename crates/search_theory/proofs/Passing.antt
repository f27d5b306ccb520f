-- No setting that keeps the rules is passed.
use Rattle.std.proofs.Common.{◌≡◌, ℕ, Bool, true, false, cond, List, [], ◌∷◌, Some, None, sym, refl, ap, ◌∙◌, subst, inl, inr, arith}
use Rattle.rules.specs.declared.literals.Literal.{Literal}
use Rattle.rules.specs.Settings.{Setting}
use Rattle.rules.specs.Constraints.{Constraint, Keeps, positive}
use Rattle.search_theory.specs.Parts.{blank, full, put, Extends}
use Rattle.search_theory.specs.Forcing.{any_dead}
use Rattle.search_theory.specs.Tries.{part, turn, nothing, due, step, Reach, start, more, Agrees, Passed}
use Rattle.search_theory.proofs.Forcing.{any_dead_up, put_extends, forced_lies, keeping_still}
use Rattle.search_theory.proofs.Stacks.{Follows, turned, stuck, tried, step_follows}

module _ (s : Setting) where
  -- at a try at on, a setting that has what was tried before has it too, or is passed
  on_cases : (l : Literal) (ts : List Literal) → l.on ≡ true → (Passed s (l ∷ ts) → ⊥) → (Agrees s (l ∷ ts) → ⊥) → Agrees s ts → ⊥
  on_cases l ts on np na a = by (s l.switch) refl
    where
      by : (b : Bool) → s l.switch ≡ b → ⊥
      by true e = na (e ∙ sym on, a)
      by false e = np (inl (on, e, a))

  turn_none : (ts : List Literal) → turn ts ≡ None → (Passed s ts → ⊥) → (Agrees s ts → ⊥) → ⊥
  turn_none [] t np na = na tt
  turn_none (l ∷ ts) t np na = by (turn_none ts) l.on refl t
    where
      by : (turn ts ≡ None → (Passed s ts → ⊥) → (Agrees s ts → ⊥) → ⊥) → (b : Bool) → l.on ≡ b → cond b (turn ts) (Some (positive l.switch ∷ ts)) ≡ None → ⊥
      by ih true e g = ih g (λ p. np (inr p)) (on_cases l ts e np na)
      by ih false e g = let z : ◌≡◌ {A = ℕ} 0 1 = cc in omega arith

  turn_some : (ts us : List Literal) → turn ts ≡ Some us → (Passed s ts → ⊥) → (Agrees s ts → ⊥) → Passed s us → ⊥
  turn_some [] us t np na = let z : ◌≡◌ {A = ℕ} 0 1 = cc in absurd (omega arith)
  turn_some (l ∷ ts) us t np na = by (turn_some ts us) l.on refl t
    where
      by : (turn ts ≡ Some us → (Passed s ts → ⊥) → (Agrees s ts → ⊥) → Passed s us → ⊥) → (b : Bool) → l.on ≡ b → cond b (turn ts) (Some (positive l.switch ∷ ts)) ≡ Some us → Passed s us → ⊥
      by ih true e g = ih g (λ p. np (inr p)) (on_cases l ts e np na)
      by ih false e g =
          let is : positive l.switch ∷ ts ≡ us = cc in
          subst (λ x. Passed s x → ⊥) is (λ h. elim h [ inl p ↦ na (p.1 ∙ sym e, p.2) | inr p ↦ np (inr p) ])

module _ (n : ℕ) (system : List Constraint) (s : Setting) (keeps : Keeps system s) where
  -- a setting that keeps the rules and has what was tried has all that is forced
  pub part_keeps : (ts : List Literal) → Agrees s ts → Extends (part n system ts) (full s)
  part_keeps [] a = (forced_lies n system blank).below (full s) (keeping_still s system keeps) (λ v b h. let z : ◌≡◌ {A = ℕ} 0 1 = cc in absurd (omega arith))
  part_keeps (l ∷ ts) a =
      (forced_lies n system (put (part n system ts) l)).below (full s) (keeping_still s system keeps) (put_extends (part n system ts) (full s) l (part_keeps ts a.1) (ap Some a.0))

  dead_disagrees : (ts : List Literal) → any_dead (part n system ts) system ≡ true → Agrees s ts → ⊥
  dead_disagrees ts d a =
      let up = any_dead_up (part n system ts) (full s) (part_keeps ts a) system d in
      let live = (keeping_still s system keeps).live in
      let z : ◌≡◌ {A = ℕ} 0 1 = cc in omega arith

  step_passed : (ts us : List Literal) → Follows n system ts (part n system ts) (due us) → (Passed s ts → ⊥) → Passed s us → ⊥
  step_passed ts us (turned d t) np = turn_some s ts us t np (dead_disagrees ts d)
  step_passed ts us (tried v d l e) np =
      subst (λ x. Passed s x → ⊥) e (λ h. elim h [ inl p ↦ (let on = p.0 in let z : ◌≡◌ {A = ℕ} 0 1 = cc in omega arith) | inr p ↦ np p ])

  pub none_passed : (k : ℕ) (ts : List Literal) → Reach n system k ts → Passed s ts → ⊥
  none_passed k ts start p = p
  none_passed k ts (more {ts = us} r e) p = step_passed us ts (step_follows n system us (part n system us) (due ts) e) (none_passed _ us r) p

  -- where the search ends with nothing there is no such setting
  pub nothing_keeps : (k : ℕ) (ts : List Literal) → Reach n system k ts → step n system ts ≡ nothing → ⊥
  nothing_keeps k ts r e = by (step_follows n system ts (part n system ts) nothing e)
    where
      by : Follows n system ts (part n system ts) nothing → ⊥
      by (stuck d t) = turn_none s ts t (none_passed k ts r) (dead_disagrees ts d)
