-- Clauses with the same literals, and the test for a recovered parity rule.
use Rattle.std.proofs.Common.{◌≡◌, ℕ, Bool, true, false, not, ◌&&◌, eqb, ◌⊎◌, List, [], ◌∷◌, map, length, sym, refl, ap, ◌∙◌, subst, ap₂, inl, inr, true≢false, arith}
use mathlib.Core.Bool.{false≢true}
use Rattle.std.proofs.lemmas.Bool.{cases_Bool, and_parts, and_from, or_parts, or_from, or_cases, or_left, or_right, eqb-true, eq-eqb, not-true}
use Rattle.rules.specs.declared.literals.Literal.{Literal}
use Rattle.rules.specs.declared.kinds.Side.{Side}
use Rattle.rules.specs.Settings.{Setting}
use Rattle.rules.specs.Constraints.{Constraint, clause, parity, same, switch_of, literal_kept, some_kept, kept, SomeOf, Keeps}
use Rattle.rules.specs.Lawful.{absent, different}
use Rattle.parity_theory.specs.Standing.{Breaks, Recovered}
use Rattle.parity_theory.specs.Writing.{off_side, against, written_out}
use Rattle.parity_theory.specs.Recovering.{clauses, any, same_literal, contained, alike, all_there}
use Rattle.parity_theory.proofs.Lists.{each_true, true_each}
use Rattle.parity_theory.proofs.Written.{off_side_values, against_switches, against_broken, having, having_values, written_each, written_at}
use Rattle.std.proofs.lemmas.List.{length-map}

pub same_equal : (a b : Bool) → same a b ≡ true → a ≡ b
same_equal a b h = grind arith

pub implies_both : (a b : Bool) → (a ≡ true → b ≡ true) → (b ≡ true → a ≡ true) → a ≡ b
implies_both true b h k = sym (h refl)
implies_both false true h k = k refl
implies_both false false h k = refl

-- a literal that is one of ms
any_absent : (v : ℕ) (l : Literal) (ms : List Literal) → any (same_literal l) ms ≡ true → absent v (map switch_of ms) ≡ true → not (eqb v l.switch) ≡ true
any_absent v l [] h a = absurd (false≢true h)
any_absent v l (m ∷ ms) h a =
    let p = and_parts (not (eqb v m.switch)) (absent v (map switch_of ms)) a in
    elim (or_cases (same_literal l m) (any (same_literal l) ms) h) [
      | inl e ↦ ap (λ w. not (eqb v w)) (eqb-true l.switch m.switch (and_parts (eqb l.switch m.switch) (same l.on m.on) e).0) ∙ p.0
      | inr e ↦ any_absent v l ms e p.1
    ]

any_broken : (t : Setting) (l : Literal) (ms : List Literal) → any (same_literal l) ms ≡ true → some_kept t ms ≡ false → literal_kept t l ≡ false
any_broken t l [] h b = absurd (false≢true h)
any_broken t l (m ∷ ms) h b =
    let p = or_parts (literal_kept t m) (some_kept t ms) b in
    elim (or_cases (same_literal l m) (any (same_literal l) ms) h) [
      | inl e ↦ (let q = and_parts (eqb l.switch m.switch) (same l.on m.on) e in ap₂ (λ w x. same x (t w)) (eqb-true l.switch m.switch q.0) (same_equal l.on m.on q.1) ∙ p.0)
      | inr e ↦ any_broken t l ms e p.1
    ]

-- the literals of ls are among those of ms
contained_absent : (v : ℕ) (ls ms : List Literal) → contained ls ms ≡ true → absent v (map switch_of ms) ≡ true → absent v (map switch_of ls) ≡ true
contained_absent v [] ms h a = refl
contained_absent v (l ∷ ls) ms h a = let p = and_parts _ _ h in and_from _ _ (any_absent v l ms p.0 a) (contained_absent v ls ms p.1 a)

contained_broken : (t : Setting) (ls ms : List Literal) → contained ls ms ≡ true → some_kept t ms ≡ false → some_kept t ls ≡ false
contained_broken t [] ms h b = refl
contained_broken t (l ∷ ls) ms h b = let p = and_parts _ _ h in or_from _ _ (any_broken t l ms p.0 b) (contained_broken t ls ms p.1 b)

-- of two clauses that a setting breaks, one has the literals of the other where it has its switches
both_broken : (a b c : Bool) → same a c ≡ false → same b c ≡ false → same a b ≡ true
both_broken a b c h k = grind arith

broken_any : (t : Setting) (l : Literal) (ms : List Literal) → literal_kept t l ≡ false → some_kept t ms ≡ false → absent l.switch (map switch_of ms) ≡ false → any (same_literal l) ms ≡ true
broken_any t l [] k b a = absurd (true≢false a)
broken_any t l (m ∷ ms) k b a =
    let p = or_parts (literal_kept t m) (some_kept t ms) b in
    elim (cases_Bool (eqb l.switch m.switch)) [
      | inl e ↦ or_left _ _ (and_from _ _ e (both_broken l.on m.on (t m.switch) (ap (λ w. same l.on (t w)) (sym (eqb-true l.switch m.switch e)) ∙ k) p.0))
      | inr e ↦ or_right _ _ (broken_any t l ms k p.1 (ap (λ x. not x && absent l.switch (map switch_of ms)) (sym e) ∙ a))
    ]

broken_contained : (t : Setting) (ls ms : List Literal) → some_kept t ls ≡ false → some_kept t ms ≡ false → ((v : ℕ) → absent v (map switch_of ms) ≡ true → absent v (map switch_of ls) ≡ true) → contained ls ms ≡ true
broken_contained t [] ms h k a = refl
broken_contained t (l ∷ ls) ms h k a =
    let p = or_parts (literal_kept t l) (some_kept t ls) h in
    and_from _ _ (broken_any t l ms p.0 k (there (cases_Bool (absent l.switch (map switch_of ms))))) (broken_contained t ls ms p.1 k (λ v e. (and_parts _ _ (a v e)).1))
  where
    there : (absent l.switch (map switch_of ms) ≡ true) ⊎ (absent l.switch (map switch_of ms) ≡ false) → absent l.switch (map switch_of ms) ≡ false
    there (inl e) = absurd (true≢false (sym (and_parts _ _ (a l.switch e)).0 ∙ ap not (eq-eqb l.switch l.switch refl)))
    there (inr e) = e

-- the clause against a setting, and a clause on the same switches that it breaks
module _ (t : Setting) (vs : List ℕ) where
  its_switches : (v : ℕ) → absent v (map switch_of (against vs (map t vs))) ≡ absent v vs
  its_switches v = ap (absent v) (against_switches vs (map t vs) (length-map vs t))

  alike_breaks : (ls : List Literal) → alike (against vs (map t vs)) ls ≡ true → Breaks t vs (clause ls)
  alike_breaks ls h =
      let p = and_parts _ _ h in (
        λ v. implies_both _ _ (λ e. sym (its_switches v) ∙ contained_absent v (against vs (map t vs)) ls p.0 e) (λ e. contained_absent v ls (against vs (map t vs)) p.1 (its_switches v ∙ e)),
        contained_broken t ls (against vs (map t vs)) p.1 (against_broken t vs),
      )

  breaks_alike : (ls : List Literal) → Breaks t vs (clause ls) → alike (against vs (map t vs)) ls ≡ true
  breaks_alike ls h =
      and_from _ _
      (broken_contained t (against vs (map t vs)) ls (against_broken t vs) h.1 (λ v e. its_switches v ∙ sym (h.0 v) ∙ e))
      (broken_contained t ls (against vs (map t vs)) h.1 (against_broken t vs) (λ v e. h.0 v ∙ sym (its_switches v) ∙ e))

  any_breaks : (rules : List Constraint) → any (alike (against vs (map t vs))) (clauses rules) ≡ true → SomeOf (Breaks t vs) rules
  any_breaks [] h = absurd (false≢true h)
  any_breaks (clause ls ∷ rules) h = elim (or_cases (alike (against vs (map t vs)) ls) _ h) [ inl e ↦ inl (alike_breaks ls e) | inr e ↦ inr (any_breaks rules e) ]
  any_breaks (parity ws side ∷ rules) h = inr (any_breaks rules h)

  breaks_any : (rules : List Constraint) → SomeOf (Breaks t vs) rules → any (alike (against vs (map t vs))) (clauses rules) ≡ true
  breaks_any [] h = absurd h
  breaks_any (clause ls ∷ rules) (inl h) = or_left _ _ (breaks_alike ls h)
  breaks_any (clause ls ∷ rules) (inr h) = or_right _ _ (breaks_any rules h)
  breaks_any (parity ws side ∷ rules) (inl h) = absurd h
  breaks_any (parity ws side ∷ rules) (inr h) = breaks_any rules h

-- the test says what the words say
pub there_recovered : (rules : List Constraint) (vs : List ℕ) (side : Side) → all_there (clauses rules) vs side ≡ true → Recovered rules vs side
there_recovered rules vs side h t k = any_breaks t vs rules (written_at (λ c. any (alike c) (clauses rules) ≡ true) vs side (each_true (λ c. any (alike c) (clauses rules)) (written_out vs side) h) t k)

pub recovered_there : (rules : List Constraint) (vs : List ℕ) (side : Side) → different vs ≡ true → Recovered rules vs side → all_there (clauses rules) vs side ≡ true
recovered_there rules vs side d h = true_each (λ c. any (alike c) (clauses rules)) (written_out vs side) (written_each (λ c. any (alike c) (clauses rules) ≡ true) vs side one)
  where
    one : (bs : List Bool) → length bs ≡ length vs → off_side side bs ≡ true → any (alike (against vs bs)) (clauses rules) ≡ true
    one bs l off =
        let t = having vs bs in
        let e = having_values vs bs d l in
        let k = not-true _ (sym (off_side_values t vs side) ∙ ap (off_side side) e ∙ off) in
        subst (λ xs. any (alike (against vs xs)) (clauses rules) ≡ true) e (breaks_any t vs rules (h t k))

-- what keeps the clauses breaks none of them
pub none_breaks : (s : Setting) (vs : List ℕ) (rules : List Constraint) → Keeps (map clause (clauses rules)) s → SomeOf (Breaks s vs) rules → ⊥
none_breaks s vs [] h k = k
none_breaks s vs (clause ls ∷ rules) h (inl k) = true≢false (sym h.0 ∙ k.1)
none_breaks s vs (clause ls ∷ rules) h (inr k) = none_breaks s vs rules h.1 k
none_breaks s vs (parity ws side ∷ rules) h (inl k) = k
none_breaks s vs (parity ws side ∷ rules) h (inr k) = none_breaks s vs rules h k

pub sound : (rules : List Constraint) (s : Setting) → Keeps (map clause (clauses rules)) s → (vs : List ℕ) (side : Side) → Recovered rules vs side → kept s (parity vs side) ≡ true
sound rules s h vs side r = elim (cases_Bool (kept s (parity vs side))) [ inl e ↦ e | inr e ↦ absurd (none_breaks s vs rules h (r s e)) ]
