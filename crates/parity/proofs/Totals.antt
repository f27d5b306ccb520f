-- Clauses on exactly the same switches have the same sum of switches, so they share a bucket.
use Rattle.std.proofs.Common.{◌≡◌, ℕ, zero, suc, ◌+◌, ◌%◌, ◌<◌, ◌≤◌, Bool, true, false, cond, eqb, ◌⊎◌, List, [], ◌∷◌, map, length, Some, None, Option, sym, refl, ap, ◌∙◌, ap₂, inl, inr, true≢false, sum, arith}
use Rattle.std.proofs.lemmas.List.{length-map}
use Rattle.std.proofs.lemmas.List.Sums.{sum_by-cons}
use Rattle.std.proofs.lemmas.Bool.{cases_Bool, cases_eq, eqb-true, eq-eqb, ne_eqb, le-ltb, cond-true, cond-false}
use Rattle.rules.specs.declared.literals.Literal.{Literal}
use Rattle.rules.specs.Settings.{Within}
use Rattle.rules.specs.Constraints.{Constraint, clause, parity, switch_of, Each}
use Rattle.rules.specs.Lawful.{absent, lawful}
use Rattle.parity_theory.proofs.Members.{Proper, lawful_proper, proper_tail, proper_new, proper_first, Alike}
use Rattle.parity.specs.Places.{breaking_value, with_value, values_place, breaking_place}
use Rattle.parity.specs.Buckets.{shared_bucket, is_bucket, is_in}
use Rattle.parity.proofs.Breaking.{alike_when, value_present}

-- ---- the sum of different switches, by which of the switches they are

-- the sum of the switches from 1 to n that fail the test
abbrev weight : (ℕ → Bool) → ℕ → ℕ
weight f zero = 0
weight f (suc n) = weight f n + cond (f (suc n)) 0 (suc n)

weight_past : (n v : ℕ) (vs : List ℕ) → n < v → weight (λ k. absent k (v ∷ vs)) n ≡ weight (λ k. absent k vs) n
weight_past zero v vs h = refl
weight_past (suc n) v vs h = rw (ne_eqb (suc n) v (λ e. omega arith), weight_past n v vs (omega arith))

weight_more : (n v : ℕ) (vs : List ℕ) → absent v vs ≡ true → Within n v → weight (λ k. absent k (v ∷ vs)) n ≡ v + weight (λ k. absent k vs) n
weight_more zero v vs new w = absurd (omega arith)
weight_more (suc n) v vs new w = go (λ u. weight_more n v vs new u) (cases_eq (suc n) v)
  where
    go : (Within n v → weight (λ k. absent k (v ∷ vs)) n ≡ v + weight (λ k. absent k vs) n) → (suc n ≡ v) ⊎ (suc n ≡ v → ⊥) → weight (λ k. absent k (v ∷ vs)) (suc n) ≡ v + weight (λ k. absent k vs) (suc n)
    go ih (inl e) =
        let here : absent (suc n) vs ≡ true = ap (λ k. absent k vs) e ∙ new in
        rw (eq-eqb (suc n) v e, weight_past n v vs (omega arith), here) (omega arith)
    go ih (inr ne) = rw (ne_eqb (suc n) v ne) (omega (arith, ih (omega arith)))

weight_none : (n : ℕ) → weight (λ k. absent k []) n ≡ 0
weight_none zero = refl
weight_none (suc n) = omega (arith, weight_none n)

weight_same : (f g : ℕ → Bool) → ((v : ℕ) → f v ≡ g v) → (n : ℕ) → weight f n ≡ weight g n
weight_same f g h zero = refl
weight_same f g h (suc n) = ap₂ (λ k b. k + cond b 0 (suc n)) (weight_same f g h n) (h (suc n))

sum_weight : (n : ℕ) (vs : List ℕ) → Proper n vs → sum vs ≡ weight (λ k. absent k vs) n
sum_weight n [] h = sym (weight_none n)
sum_weight n (v ∷ vs) h = sum_by-cons (λ x. x) v vs ∙ ap (λ k. v + k) (sum_weight n vs (proper_tail n v vs h)) ∙ sym (weight_more n v vs (proper_new n v vs h) (proper_first n v vs h))

alike_sum : (n : ℕ) (vs ws : List ℕ) → Proper n vs → Proper n ws → Alike vs ws → sum vs ≡ sum ws
alike_sum n vs ws h k same = sum_weight n vs h ∙ weight_same (λ v. absent v vs) (λ v. absent v ws) same n ∙ sym (sum_weight n ws k)

-- ---- a clause in another bucket is on other switches

-- a clause that gives each of vs a value has each of them
placed_present : (ls : List Literal) (vs : List ℕ) (p : ℕ) → values_place ls vs ≡ Some p → Each (λ v. absent v (map switch_of ls) ≡ false) vs
placed_present ls [] p h = tt
placed_present ls (v ∷ vs) p h = by (placed_present ls vs) (breaking_value ls v) (values_place ls vs) refl refl h
  where
    by : ((q : ℕ) → values_place ls vs ≡ Some q → Each (λ u. absent u (map switch_of ls) ≡ false) vs) → (o : Option Bool) (r : Option ℕ) → breaking_value ls v ≡ o → values_place ls vs ≡ r → with_value o r ≡ Some p → (absent v (map switch_of ls) ≡ false) × Each (λ u. absent u (map switch_of ls) ≡ false) vs
    by ih None r e f g = let z : ◌≡◌ {A = ℕ} 0 1 = cc in absurd (omega arith)
    by ih (Some b) None e f g = let z : ◌≡◌ {A = ℕ} 0 1 = cc in absurd (omega arith)
    by ih (Some b) (Some q) e f g = (value_present ls v b e, ih q f)

module _ (vs : List ℕ) (b : ℕ) (ok : Proper 256 vs) (few : length vs ≤ 5) (is : b ≡ shared_bucket vs) where
  same_bucket : (ls : List Literal) (p : ℕ) → lawful 256 (clause ls) ≡ true → length ls ≡ length vs → values_place ls vs ≡ Some p → is_in b (clause ls) ≡ true
  same_bucket ls p law size h =
      let own = lawful_proper 256 (clause ls) law in
      let long : length vs ≡ length (map switch_of ls) = sym size ∙ sym (length-map ls switch_of) in
      let alike = alike_when 256 vs (map switch_of ls) ok own long (placed_present ls vs p h) in
      ap (is_bucket b) (cond-false _ _ _ (le-ltb 5 (length ls) (omega arith)))
      ∙ eq-eqb (shared_bucket (map switch_of ls)) b (ap (λ k. k % 256) (alike_sum 256 (map switch_of ls) vs own ok alike) ∙ sym is)

  pub other_bucket : (r : Constraint) → lawful 256 r ≡ true → is_in b r ≡ false → breaking_place vs r ≡ None
  other_bucket (parity ws side) law other = refl
  other_bucket (clause ls) law other = by (cases_Bool (eqb (length ls) (length vs)))
    where
      at : (o : Option ℕ) → length ls ≡ length vs → values_place ls vs ≡ o → values_place ls vs ≡ None
      at None size h = h
      at (Some p) size h = absurd (true≢false (sym (same_bucket ls p law size h) ∙ other))

      by : (eqb (length ls) (length vs) ≡ true) ⊎ (eqb (length ls) (length vs) ≡ false) → breaking_place vs (clause ls) ≡ None
      by (inl e) = cond-true _ _ _ e ∙ at (values_place ls vs) (eqb-true (length ls) (length vs) e) refl
      by (inr e) = cond-false _ _ _ e
