-- Every set in the reduction has the length of the sets that it starts from.
use Rattle.std.proofs.Common.{◌≡◌, ℕ, zero, suc, ◌<◌, Bool, true, false, List, [], ◌∷◌, length, Some, None, Option, sym, refl, ap, ◌∙◌, subst, inl, inr, true≢false, arith}
use Rattle.std.proofs.lemmas.Bool.{cond_both, cases_lt}
use Rattle.rules.specs.Settings.{Within}
use Rattle.rules.specs.Constraints.{Each}
use Rattle.parity_theory.specs.Equations.{has, difference, Equation, plus}
use Rattle.parity_theory.specs.Reducing.{Row, row, highest, cleared_by, cleared, joined, placed, extended, reduce_from, reduce}
use Rattle.parity_theory.proofs.Systems.{members_of, ReducedRows, ReducedIf, reduce_reduced}

pub difference_length : (n : ℕ) (a b : List Bool) → length a ≡ n → length b ≡ n → length (difference a b) ≡ n
difference_length n [] b h k = k
difference_length n (x ∷ a) [] h k = h
difference_length zero (x ∷ a) (y ∷ b) h k = absurd (omega arith)
difference_length (suc n) (x ∷ a) (y ∷ b) h k = ap suc (difference_length n a b (omega arith) (omega arith))

-- the set has n places
abbrev pub Sized : ℕ → Equation → Type 0
Sized n e = length e.members ≡ n

abbrev pub AllSized : ℕ → List Row → Type 0
AllSized n rs = Each (λ r. Sized n r.equation) rs

abbrev pub SizedIf : ℕ → Option (List Row) → Type 0
SizedIf n None = Unit {0}
SizedIf n (Some rs) = AllSized n rs

module _ (n : ℕ) where
  sized_by : (r : Row) (e : Equation) → Sized n r.equation → Sized n e → Sized n (cleared_by r e)
  sized_by r e hr he = cond_both (has e.members r.dependent) (plus e r.equation) e (Sized n) (λ _. difference_length n e.members (members_of r) he hr) (λ _. he)

  pub sized_cleared : (rs : List Row) (e : Equation) → AllSized n rs → Sized n e → Sized n (cleared rs e)
  sized_cleared [] e hs he = he
  sized_cleared (r ∷ rs) e hs he = sized_cleared rs (cleared_by r e) hs.1 (sized_by r e hs.0 he)

  pub sized_joined : (rs : List Row) (r : Row) → AllSized n rs → Sized n r.equation → AllSized n (joined rs r)
  sized_joined [] r hs h = (h, tt)
  sized_joined (q ∷ rs) r hs h = (sized_by r q.equation h hs.0, sized_joined rs r hs.1 h)

  sized_placed : (rs : List Row) (e : Equation) (d : Option ℕ) → AllSized n rs → Sized n e → SizedIf n (placed rs e d)
  sized_placed rs e None hs h = cond_both e.odd None (Some rs) (SizedIf n) (λ _. tt) (λ _. hs)
  sized_placed rs e (Some d) hs h = sized_joined rs (row d e) hs h

  pub sized_extended : (o : Option (List Row)) (e : Equation) → SizedIf n o → Sized n e → SizedIf n (extended o e)
  sized_extended None e h k = tt
  sized_extended (Some rs) e h k = sized_placed rs (cleared rs e) (highest (cleared rs e).members) h (sized_cleared rs e h k)

  pub sized_reduced : (o : Option (List Row)) (es : List Equation) → SizedIf n o → Each (Sized n) es → SizedIf n (reduce_from o es)
  sized_reduced o [] h k = h
  sized_reduced o (e ∷ es) h k = sized_reduced (extended o e) es (sized_extended o e h k.0) k.1

  -- the rows that the reduction of equations over n switches makes
  pub rows_reduced : (es : List Equation) (rs : List Row) → Each (Sized n) es → reduce es ≡ Some rs → ReducedRows rs × AllSized n rs
  rows_reduced es rs h e = (subst ReducedIf e (reduce_reduced (Some []) es tt), subst (SizedIf n) e (sized_reduced (Some []) es tt h))

-- a set of n places has no switch past n
pub has_past : (set : List Bool) (v : ℕ) → length set < v → has set v ≡ false
has_past set zero h = refl
has_past [] (suc v) h = refl
has_past (b ∷ set) (suc zero) h = absurd (omega arith)
has_past (b ∷ set) (suc (suc v)) h = has_past set (suc v) (omega arith)

pub has_within : (n : ℕ) (set : List Bool) (v : ℕ) → length set ≡ n → has set v ≡ true → Within n v
has_within n set zero l h = absurd (true≢false (sym h))
has_within n set (suc v) l h = elim (cases_lt n (suc v)) [ inl p ↦ absurd (true≢false (sym h ∙ has_past set (suc v) (omega arith))) | inr p ↦ omega arith ]

pub dependents_within : (n : ℕ) (rs : List Row) → ReducedRows rs → AllSized n rs → Each (λ r. Within n r.dependent) rs
dependents_within n [] red w = tt
dependents_within n (r ∷ rs) red w = (has_within n (members_of r) r.dependent w.0 red.0.0, dependents_within n rs red.2 w.1)
