-- The lowest switch that passes a test, and how many pass.
use Rattle.std.proofs.Common.{◌≡◌, ℕ, zero, suc, ◌+◌, ◌<◌, ◌≤◌, Bool, true, false, not, ◌⊎◌, is_some, Some, None, Option, sym, refl, ap, ◌∙◌, subst, inl, inr, arith}
use native.Mathlib.Decide.{ℕ_discrete}
use Rattle.std.specs.Option.{option_or}
use Rattle.std.specs.Bool.{then_some}
use Rattle.std.proofs.lemmas.Bool.{cases_lt}
use Rattle.rules.specs.declared.literals.Literal.{Literal}
use Rattle.rules.specs.Settings.{Within}
use Rattle.rules.specs.Rows.{tally}
use Rattle.search_theory.specs.Parts.{Part, put, unset, Extends}
use Rattle.search_theory.specs.Tries.{lowest}

-- v is the lowest of the switches 1 to n that passes
pub record Lowest (t : ℕ → Bool) (n v : ℕ) : Type 0 where
  pub within : Within n v
  pub passes : t v ≡ true
  pub below : (w : ℕ) → 1 ≤ w → w < v → t w ≡ false

module _ (t : ℕ → Bool) where
  pub lowest_none : (n : ℕ) → lowest t n ≡ None → (w : ℕ) → Within n w → t w ≡ false
  lowest_none zero h w l = absurd (omega arith)
  lowest_none (suc n) h w l =
      let ih = lowest_none n in
      let d = ℕ_discrete w (suc n) in
      let l1 = l.0 in
      let l2 = l.1 in
      grind arith

  pub lowest_some : (n v : ℕ) → lowest t n ≡ Some v → Lowest t n v
  lowest_some zero v h = grind arith
  lowest_some (suc n) v h = by (lowest_some n v) (lowest t n) refl
    where
      by : (lowest t n ≡ Some v → Lowest t n v) → (o : Option ℕ) → lowest t n ≡ o → Lowest t (suc n) v
      by ih None e =
          let low = lowest_none n e in
          let v_is : suc n ≡ v = grind arith in
          record { within = omega arith; passes = grind arith; below = λ w p l. low w (omega arith) }
      by ih (Some x) e =
          let r = ih (grind arith) in
          record { within = omega arith; passes = r.passes; below = r.below }

  -- the scan from the lowest switch up: none of the first k + 1 passes
  pub lowest_more : (k m : ℕ) → m ≡ k + 1 → lowest t k ≡ None → t m ≡ false → lowest t m ≡ None
  lowest_more k m e h f =
      let m_is : m ≡ suc k = omega arith in
      let g : t (suc k) ≡ false = subst (λ j. t j ≡ false) m_is f in
      subst (λ j. lowest t j ≡ None) (sym m_is) (ap (λ o. option_or o (then_some (t (suc k)) (suc k))) h ∙ ap (λ b. then_some b (suc k)) g)

  -- none of the first k passes, and the next one does
  pub lowest_first : (k m n : ℕ) → m ≡ k + 1 → k < n → lowest t k ≡ None → t m ≡ true → lowest t n ≡ Some m
  lowest_first k m zero e l h f = absurd (omega arith)
  lowest_first k m (suc n) e l h f = by (lowest_first k m n e) (cases_lt k n)
    where
      by : (k < n → lowest t k ≡ None → t m ≡ true → lowest t n ≡ Some m) → (k < n) ⊎ (n ≤ k) → lowest t (suc n) ≡ Some m
      by ih (inl g) = ap (λ o. option_or o (then_some (t (suc n)) (suc n))) (ih g h f)
      by ih (inr g) =
          let k_is : k ≡ n = omega arith in
          let m_is : m ≡ suc n = omega arith in
          let a : lowest t n ≡ None = subst (λ j. lowest t j ≡ None) k_is h in
          let b : t (suc n) ≡ true = subst (λ j. t j ≡ true) m_is f in
          ap (λ o. option_or o (then_some (t (suc n)) (suc n))) a ∙ ap (λ x. then_some x (suc n)) b ∙ ap Some (sym m_is)

  pub tally_most : (n : ℕ) → tally t n ≤ n
  tally_most zero = omega arith
  tally_most (suc n) =
      let ih = tally_most n in
      grind arith

module _ (t u : ℕ → Bool) (h : (w : ℕ) → u w ≡ true → t w ≡ true) where
  pub tally_le : (n : ℕ) → tally u n ≤ tally t n
  tally_le zero = omega arith
  tally_le (suc n) =
      let ih = tally_le n in
      let here = h (suc n) in
      grind arith

  pub tally_less : (v : ℕ) → t v ≡ true → u v ≡ false → (n : ℕ) → Within n v → tally u n < tally t n
  tally_less v a b zero l = absurd (omega arith)
  tally_less v a b (suc n) l =
      let ih = tally_less v a b n in
      let le = tally_le n in
      let here = h (suc n) in
      let d = ℕ_discrete v (suc n) in
      let l1 = l.0 in
      let l2 = l.1 in
      grind arith

-- more set, fewer unset
pub unset_le : (n : ℕ) (p q : Part) → Extends p q → unset n q ≤ unset n p
unset_le n p q e = tally_le (λ v. not (is_some (p v))) (λ v. not (is_some (q v))) (λ v h. let e1 = e v in grind arith) n

pub unset_put : (n : ℕ) (p : Part) (l : Literal) → p l.switch ≡ None → Within n l.switch → unset n (put p l) < unset n p
unset_put n p l u w =
    tally_less (λ v. not (is_some (p v))) (λ v. not (is_some (put p l v))) (λ v h. grind arith) l.switch (grind arith) (grind arith) n w
