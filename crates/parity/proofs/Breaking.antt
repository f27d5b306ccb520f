-- The setting that breaks a clause, by its place.
use Rattle.std.proofs.Common.{◌≡◌, ℕ, zero, suc, ◌+◌, ◌*◌, ◌^◌, ◌<◌, ◌≤◌, Bool, true, false, not, ◌&&◌, eqb, ◌⊎◌, List, [], ◌∷◌, map, length, Some, None, Option, sym, refl, ap, ◌∙◌, subst, ap₂, inl, inr, true≢false, pow-suc, arith}
use Rattle.std.proofs.lemmas.List.{length-map}
use Rattle.std.proofs.lemmas.Bool.{cases_Bool, cases_eq, cases_lt, and_parts, and_left, and_right, or_parts, or_from, eqb-true, eq-eqb, ne_eqb, cond-true, cond-false}
use Rattle.rules.specs.declared.literals.Literal.{Literal}
use Rattle.rules.specs.Settings.{Setting, Within}
use Rattle.rules.specs.Constraints.{Constraint, clause, parity, same, switch_of, some_kept, Each}
use Rattle.rules.specs.Lawful.{absent, different, lawful}
use Rattle.rules.specs.Rows.{bit, tally}
use Rattle.parity_theory.specs.Standing.{Breaks}
use Rattle.parity_theory.proofs.Lists.{each_weaker}
use Rattle.parity_theory.proofs.Members.{Proper, lawful_proper, absent_outside, tally_absent, Alike, alike_length}
use Rattle.parity_theory.proofs.Clauses.{implies_both}
use Rattle.parity.specs.Places.{place, breaking_value, with_value, values_place, breaking_place}
use Rattle.parity.proofs.Places.{bit_equal, bit_small}

-- ---- lists of switches, of which one has all of the other

absent_head : (v : ℕ) (vs : List ℕ) → absent v (v ∷ vs) ≡ false
absent_head v vs = ap (λ b. not b && absent v vs) (eq-eqb v v refl)

-- each switch of vs is one of ws
each_present : (vs ws : List ℕ) → ((v : ℕ) → absent v vs ≡ false → absent v ws ≡ false) → Each (λ v. absent v ws ≡ false) vs
each_present [] ws h = tt
each_present (v ∷ vs) ws h = (h v (absent_head v vs), each_present vs ws (λ u e. h u (and_right (not (eqb u v)) (absent u vs) e)))

at_present : (P : ℕ → Type 0) (vs : List ℕ) → Each P vs → (v : ℕ) → absent v vs ≡ false → P v
at_present P [] h v e = absurd (true≢false e)
at_present P (u ∷ vs) h v e =
    elim (cases_eq v u) [
      | inl q ↦ subst P (sym q) h.0
      | inr ne ↦ at_present P vs h.1 v (ap (λ b. not b && absent v vs) (sym (ne_eqb v u ne)) ∙ e)
    ]

bit_le : (a b : Bool) → (a ≡ true → b ≡ true) → bit a ≤ bit b
bit_le true b k = rw (k refl) (omega arith)
bit_le false b k = omega arith

tally_le : (f g : ℕ → Bool) → ((v : ℕ) → f v ≡ true → g v ≡ true) → (n : ℕ) → tally f n ≤ tally g n
tally_le f g h zero = omega arith
tally_le f g h (suc n) = omega (arith, tally_le f g h n, bit_le (f (suc n)) (g (suc n)) (h (suc n)))

-- where as many pass the stronger test, what passes the weaker passes the stronger
tally_both : (f g : ℕ → Bool) → ((v : ℕ) → f v ≡ true → g v ≡ true) → (n : ℕ) → tally f n ≡ tally g n → (v : ℕ) → Within n v → g v ≡ true → f v ≡ true
tally_both f g h zero e v w k = absurd (omega arith)
tally_both f g h (suc n) e v w k =
    elim (cases_eq v (suc n)) [
      | inl q ↦ subst (λ u. f u ≡ true) (sym q) (top (f (suc n)) (ap g (sym q) ∙ k) refl)
      | inr ne ↦ tally_both f g h n below v (omega arith) k
    ]
  where
    le : tally f n ≤ tally g n
    le = tally_le f g h n

    top : (b : Bool) → g (suc n) ≡ true → f (suc n) ≡ b → f (suc n) ≡ true
    top true p q = q
    top false p q = absurd (omega (arith, le, ap bit p, ap bit q))

    below : tally f n ≡ tally g n
    below = omega (arith, le, e, bit_le (f (suc n)) (g (suc n)) (h (suc n)))

-- different switches, as many as those that they have among them
pub alike_when : (n : ℕ) (vs ws : List ℕ) → Proper n vs → Proper n ws → length vs ≡ length ws → Each (λ v. absent v ws ≡ false) vs → Alike ws vs
alike_when n vs ws hv hw e each v = implies_both (absent v ws) (absent v vs) (forth v) (back v)
  where
    forth : (u : ℕ) → absent u ws ≡ true → absent u vs ≡ true
    forth u h = elim (cases_Bool (absent u vs)) [ inl k ↦ k | inr k ↦ absurd (true≢false (sym h ∙ at_present (λ x. absent x ws ≡ false) vs each u k)) ]

    back : (u : ℕ) → absent u vs ≡ true → absent u ws ≡ true
    back u h =
        elim (cases_lt u 1) [
          | inl l ↦ absent_outside n u ws hw.ranged (λ w. omega arith)
          | inr l ↦ elim (cases_lt n u) [
            | inl m ↦ absent_outside n u ws hw.ranged (λ w. omega arith)
            | inr m ↦ tally_both (λ x. absent x ws) (λ x. absent x vs) forth n (omega (arith, tally_absent n vs hv, tally_absent n ws hw)) u (l, m) h
          ]
        ]

-- ---- the values that break a clause

not_same : (a b : Bool) → same a b ≡ false → not a ≡ b
not_same a b h = grind arith

same_not : (a b : Bool) → not a ≡ b → same a b ≡ false
same_not a b h = grind arith

-- of a setting that breaks it
broken_value : (t : Setting) (ls : List Literal) (v : ℕ) → some_kept t ls ≡ false → absent v (map switch_of ls) ≡ false → breaking_value ls v ≡ Some (t v)
broken_value t [] v h e = absurd (true≢false e)
broken_value t (l ∷ ls) v h e =
    let p = or_parts (same l.on (t l.switch)) (some_kept t ls) h in
    elim (cases_eq l.switch v) [
      | inl q ↦ cond-true _ _ _ (eq-eqb l.switch v q) ∙ ap Some (not_same l.on (t l.switch) p.0 ∙ ap t q)
      | inr ne ↦ cond-false _ _ _ (ne_eqb l.switch v ne) ∙ broken_value t ls v p.1 (ap (λ b. not b && absent v (map switch_of ls)) (sym (ne_eqb v l.switch (λ q. ne (sym q)))) ∙ e)
    ]

pub value_present : (ls : List Literal) (v : ℕ) (b : Bool) → breaking_value ls v ≡ Some b → absent v (map switch_of ls) ≡ false
value_present [] v b h = let z : ◌≡◌ {A = ℕ} 0 1 = cc in absurd (omega arith)
value_present (l ∷ ls) v b h =
    elim (cases_eq l.switch v) [
      | inl q ↦ and_left _ _ (ap not (eq-eqb v l.switch (sym q)))
      | inr ne ↦ and_right _ _ (value_present ls v b (sym (cond-false _ _ _ (ne_eqb l.switch v ne)) ∙ h))
    ]

-- a setting that has them breaks it
values_break : (t : Setting) (ls : List Literal) → different (map switch_of ls) ≡ true → ((v : ℕ) → absent v (map switch_of ls) ≡ false → breaking_value ls v ≡ Some (t v)) → some_kept t ls ≡ false
values_break t [] d h = refl
values_break t (l ∷ ls) d h =
    let p = and_parts (absent l.switch (map switch_of ls)) (different (map switch_of ls)) d in
    or_from _ _ (same_not l.on (t l.switch) (some_equal (not l.on) (t l.switch) (sym (cond-true _ _ _ (eq-eqb l.switch l.switch refl)) ∙ h l.switch (absent_head l.switch (map switch_of ls)))))
    (values_break t ls p.1 (λ v e. sym (cond-false _ _ _ (ne_eqb l.switch v (λ q. true≢false (sym p.0 ∙ ap (λ u. absent u (map switch_of ls)) q ∙ e)))) ∙ h v (and_right _ _ e)))
  where
    some_equal : (a b : Bool) → Some a ≡ Some b → a ≡ b
    some_equal a b e = cc

-- ---- and their place

values_broken : (t : Setting) (ls : List Literal) (vs : List ℕ) → some_kept t ls ≡ false → Each (λ v. absent v (map switch_of ls) ≡ false) vs → values_place ls vs ≡ Some (place (map t vs))
values_broken t ls [] h e = refl
values_broken t ls (v ∷ vs) h e = ap₂ with_value (broken_value t ls v h e.0) (values_broken t ls vs h e.1)

placed_values : (t : Setting) (ls : List Literal) (vs : List ℕ) → values_place ls vs ≡ Some (place (map t vs)) → Each (λ v. breaking_value ls v ≡ Some (t v)) vs
placed_values t ls [] h = tt
placed_values t ls (v ∷ vs) h = by (placed_values t ls vs) (breaking_value ls v) (values_place ls vs) refl refl h
  where
    by : (values_place ls vs ≡ Some (place (map t vs)) → Each (λ u. breaking_value ls u ≡ Some (t u)) vs) → (o : Option Bool) (p : Option ℕ) → breaking_value ls v ≡ o → values_place ls vs ≡ p → with_value o p ≡ Some (2 * place (map t vs) + bit (t v)) → (breaking_value ls v ≡ Some (t v)) × Each (λ u. breaking_value ls u ≡ Some (t u)) vs
    by ih None p e f g = let z : ◌≡◌ {A = ℕ} 0 1 = cc in absurd (omega arith)
    by ih (Some b) None e f g = let z : ◌≡◌ {A = ℕ} 0 1 = cc in absurd (omega arith)
    by ih (Some b) (Some q) e f g =
        let s : 2 * q + bit b ≡ 2 * place (map t vs) + bit (t v) = cc in
        let low : bit b ≡ bit (t v) = omega (arith, bit_small b, bit_small (t v)) in
        let high : q ≡ place (map t vs) = omega (arith, bit_small b, bit_small (t v)) in
        (e ∙ ap Some (bit_equal b (t v) low), ih (f ∙ ap Some high))

pub values_below : (ls : List Literal) (vs : List ℕ) (p : ℕ) → values_place ls vs ≡ Some p → p < 2 ^ length vs
values_below ls [] p h = let e : p ≡ 0 = cc in omega arith
values_below ls (v ∷ vs) p h = by (values_below ls vs) (breaking_value ls v) (values_place ls vs) refl h
  where
    by : ((q : ℕ) → values_place ls vs ≡ Some q → q < 2 ^ length vs) → (o : Option Bool) (r : Option ℕ) → values_place ls vs ≡ r → with_value o r ≡ Some p → p < 2 ^ suc (length vs)
    by ih None r f g = let z : ◌≡◌ {A = ℕ} 0 1 = cc in absurd (omega arith)
    by ih (Some b) None f g = let z : ◌≡◌ {A = ℕ} 0 1 = cc in absurd (omega arith)
    by ih (Some b) (Some q) f g =
        let s : 2 * q + bit b ≡ p = cc in
        rw (pow-suc 2 (length vs)) (omega (arith, ih q f, bit_small b))

-- ---- a setting breaks a clause on exactly vs where it is at the clause's place

module _ (n : ℕ) (t : Setting) (vs : List ℕ) (ok : Proper n vs) where
  pub breaks_place : (r : Constraint) → lawful n r ≡ true → Breaks t vs r → breaking_place vs r ≡ Some (place (map t vs))
  breaks_place (clause ls) law h =
      let size : length ls ≡ length vs = sym (length-map ls switch_of) ∙ alike_length n (map switch_of ls) vs (lawful_proper n (clause ls) law) ok h.0 in
      cond-true _ _ _ (eq-eqb (length ls) (length vs) size) ∙ values_broken t ls vs h.1 (each_present vs (map switch_of ls) (λ v e. h.0 v ∙ e))
  breaks_place (parity ws side) law h = absurd h

  pub place_breaks : (r : Constraint) → lawful n r ≡ true → breaking_place vs r ≡ Some (place (map t vs)) → Breaks t vs r
  place_breaks (clause ls) law h = by (cases_Bool (eqb (length ls) (length vs)))
    where
      by : (eqb (length ls) (length vs) ≡ true) ⊎ (eqb (length ls) (length vs) ≡ false) → Breaks t vs (clause ls)
      by (inr e) = let z : ◌≡◌ {A = ℕ} 0 1 = cc (sym (cond-false _ (values_place ls vs) None e) ∙ h) in absurd (omega arith)
      by (inl e) =
          let own = lawful_proper n (clause ls) law in
          let has = placed_values t ls vs (sym (cond-true _ (values_place ls vs) None e) ∙ h) in
          let size : length vs ≡ length (map switch_of ls) = sym (eqb-true (length ls) (length vs) e) ∙ sym (length-map ls switch_of) in
          let alike = alike_when n vs (map switch_of ls) ok own size (each_weaker _ _ (λ v. value_present ls v (t v)) vs has) in
          (alike, values_break t ls own.apart (λ v k. at_present (λ u. breaking_value ls u ≡ Some (t u)) vs has v (sym (alike v) ∙ k)))
  place_breaks (parity ws side) law h = let z : ◌≡◌ {A = ℕ} 0 1 = cc in absurd (omega arith)
