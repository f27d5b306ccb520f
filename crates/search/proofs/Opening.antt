-- Where nothing is forced, the lowest unset switch is free.
use Rattle.std.proofs.Common.{◌≡◌, ℕ, ◌<◌, ◌≤◌, true, not, ◌⊎◌, List, [], ◌∷◌, is_some, Some, None, Option, refl, subst, inl, inr, arith}
use Rattle.std.proofs.lemmas.Bool.{cases_eq, cases_lt}
use Rattle.rules.specs.declared.kinds.Side.{Side}
use Rattle.rules.specs.Constraints.{Constraint, clause, parity, Each}
use Rattle.rules.specs.Rows.{free, Falling, Member, Reduced}
use Rattle.search_theory.specs.Parts.{Part}
use Rattle.search_theory.specs.Forcing.{parity_at, says, said}
use Rattle.search_theory.specs.Tries.{lowest, is_open}
use Rattle.search_theory.proofs.Switches.{Lowest, lowest_none, lowest_some}

module _ (n : ℕ) (all : List Constraint) (p : Part) (v : ℕ) (unset-v : p v ≡ None) (low : (w : ℕ) → 1 ≤ w → w < v → is_some (p w) ≡ true) where
  parity_set : (vs : List ℕ) (b : ℕ) → b ≤ v → Falling b vs → Each (λ w. (1 ≤ w) × (free all w ≡ true)) vs → is_some (parity_at p vs) ≡ true
  parity_set [] b h f o = refl
  parity_set (w ∷ vs) b h f o =
      let ih = parity_set vs w (omega arith) f.1 o.1 in
      let here = low w o.0.0 (omega arith) in
      grind arith

  row_forces : (vs : List ℕ) (side : Side) → is_some (parity_at p vs) ≡ true → says p (parity (v ∷ vs) side) ≡ None → ⊥
  row_forces vs side h e = let z : ◌≡◌ {A = ℕ} 0 1 = grind arith in omega arith

  free_unset : (rs : List Constraint) → Each (Member n all) rs → said p rs ≡ None → free rs v ≡ true
  free_unset [] m h = refl
  free_unset (clause ls ∷ rs) m h = free_unset rs m.1 (grind arith)
  free_unset (parity [] side ∷ rs) m h = absurd m.0
  free_unset (parity (d ∷ vs) side ∷ rs) m h = by (free_unset rs m.1) (cases_eq d v)
    where
      by : (said p rs ≡ None → free rs v ≡ true) → (d ≡ v) ⊎ (d ≡ v → ⊥) → free (parity (d ∷ vs) side ∷ rs) v ≡ true
      by ih (inl e) =
          let quiet : says p (parity (d ∷ vs) side) ≡ None = grind arith in
          absurd (row_forces vs side (parity_set vs d (omega arith) m.0.1 m.0.2) (subst (λ x. says p (parity (x ∷ vs) side) ≡ None) e quiet))
      by ih (inr ne) = let rest = ih (grind arith) in grind arith

module _ (n : ℕ) (rules : List Constraint) (red : Reduced n rules) (p : Part) (quiet : said p rules ≡ None) where
  none_open : lowest (λ v. not (is_some (p v))) n ≡ None → (y : Option ℕ) → lowest (is_open rules p) n ≡ y → y ≡ None
  none_open e None f = refl
  none_open e (Some w) f =
      let some = lowest_some (is_open rules p) n w f in
      let passes = some.passes in
      let none = lowest_none (λ v. not (is_some (p v))) n e w some.within in
      let z : ◌≡◌ {A = ℕ} 0 1 = grind arith in absurd (omega arith)

  some_open : (v : ℕ) → Lowest (λ v. not (is_some (p v))) n v → (y : Option ℕ) → lowest (is_open rules p) n ≡ y → y ≡ Some v
  some_open v low y f = by y f
    where
      is_unset : p v ≡ None
      is_unset = let passes = low.passes in grind arith

      is_free : free rules v ≡ true
      is_free = free_unset n rules p v is_unset (λ w pos less. let b = low.below w pos less in grind arith) rules red.members quiet

      by : (y : Option ℕ) → lowest (is_open rules p) n ≡ y → y ≡ Some v
      by None f =
          let none = lowest_none (is_open rules p) n f v low.within in
          let u = is_unset in
          let g = is_free in
          let z : ◌≡◌ {A = ℕ} 0 1 = grind arith in absurd (omega arith)
      by (Some w) f = at (lowest_some (is_open rules p) n w f) (cases_lt w v) (cases_lt v w)
        where
          at : Lowest (is_open rules p) n w → (w < v) ⊎ (v ≤ w) → (v < w) ⊎ (w ≤ v) → Some w ≡ Some v
          at some (inl less) x =
              let passes = some.passes in
              let below = low.below w some.within.0 less in
              let z : ◌≡◌ {A = ℕ} 0 1 = grind arith in absurd (omega arith)
          at some (inr more) (inl less) =
              let below = some.below v low.within.0 less in
              let u = is_unset in
              let g = is_free in
              let z : ◌≡◌ {A = ℕ} 0 1 = grind arith in absurd (omega arith)
          at some (inr more) (inr same) = let e : w ≡ v = omega arith in cc

  -- so it is the lowest that is free and unset
  pub open_lowest : (x : Option ℕ) → lowest (λ v. not (is_some (p v))) n ≡ x → lowest (is_open rules p) n ≡ x
  open_lowest None e = none_open e (lowest (is_open rules p) n) refl
  open_lowest (Some v) e = some_open v (lowest_some (λ v. not (is_some (p v))) n v e) (lowest (is_open rules p) n) refl
