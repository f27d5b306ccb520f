-- The reduction of equations: its rows are reduced, and the same settings satisfy them.
use Rattle.std.proofs.Common.{◌≡◌, ℕ, zero, suc, ◌<◌, ◌≤◌, Bool, true, false, cond, ◌&&◌, ◌⊎◌, List, [], ◌∷◌, ◌++◌, map, Some, None, Option, sym, refl, ap, ◌∙◌, inl, inr, true≢false, le_of_suc-le-suc, not-suc-le-zero, arith}
use Rattle.std.proofs.Math.Bool.{and_assoc, and-true}
use Rattle.std.proofs.lemmas.Bool.{cond_both, cases_lt, and_parts}
use Rattle.rules.specs.Settings.{Setting}
use Rattle.rules.specs.Constraints.{same, Each}
use Rattle.parity_theory.specs.Equations.{has, Equation, plus, satisfies, satisfies_all}
use Rattle.parity_theory.specs.Reducing.{Row, row, shifted, highest, cleared_by, cleared, without, joined, placed, extended, reduce_from, reduce}
use Rattle.parity_theory.proofs.Lists.{each_weaker, each_append}
use Rattle.parity_theory.proofs.Sums.{xor_false, difference_has, satisfies_plus, odd_in_none}

-- d is the highest switch of the set
abbrev pub IsHighest : List Bool → ℕ → Type 0
IsHighest set d = (has set d ≡ true) × ((v : ℕ) → d < v → has set v ≡ false)

abbrev pub members_of : Row → List Bool
members_of r = r.equation.members

-- neither row has the dependent of the other
abbrev pub Disjoint : Row → Row → Type 0
Disjoint r q = (has (members_of q) r.dependent ≡ false) × (has (members_of r) q.dependent ≡ false)

abbrev pub ReducedRows : List Row → Type 0
ReducedRows [] = Unit {0}
ReducedRows (r ∷ rs) = IsHighest (members_of r) r.dependent × Each (Disjoint r) rs × ReducedRows rs

abbrev pub ReducedIf : Option (List Row) → Type 0
ReducedIf None = Unit {0}
ReducedIf (Some rs) = ReducedRows rs

-- s satisfies the equations of the rows
abbrev pub fits : ℕ → Setting → List Row → Bool
fits n s [] = true
fits n s (r ∷ rs) = satisfies n s r.equation && fits n s rs

abbrev pub fits_if : ℕ → Setting → Option (List Row) → Bool
fits_if n s None = false
fits_if n s (Some rs) = fits n s rs

-- the set has none of the dependents
abbrev pub Lacks : List Row → List Bool → Type 0
Lacks rs set = Each (λ q. has set q.dependent ≡ false) rs

-- what one clearing does
pub clears : (r : Row) (e : Equation) → has (members_of r) r.dependent ≡ true → has (cleared_by r e).members r.dependent ≡ false
clears r e h = grind (arith, difference_has e.members (members_of r) r.dependent)

pub untouched : (r : Row) (e : Equation) (v : ℕ) → has (members_of r) v ≡ false → has (cleared_by r e).members v ≡ has e.members v
untouched r e v h = grind (arith, difference_has e.members (members_of r) v, xor_false (has e.members v))

pub satisfies_cleared_by : (n : ℕ) (s : Setting) (r : Row) (e : Equation) → satisfies n s r.equation ≡ true → satisfies n s (cleared_by r e) ≡ satisfies n s e
satisfies_cleared_by n s r e h = cond_both (has e.members r.dependent) (plus e r.equation) e (λ x. satisfies n s x ≡ satisfies n s e) (λ _. satisfies_plus n s e r.equation h) (λ _. refl)

highest_stays : (r : Row) (e : Equation) (d : ℕ) → IsHighest (members_of r) r.dependent → IsHighest e.members d → has (members_of r) d ≡ false → IsHighest (cleared_by r e).members d
highest_stays r e d hr he out = (
  untouched r e d out ∙ he.0,
  λ v l. cond_both (has e.members r.dependent) (plus e r.equation) e (λ x. has x.members v ≡ false)
      (λ t. difference_has e.members (members_of r) v ∙ rw (he.1 v l) (hr.1 v (above t (cases_lt d r.dependent) l)))
      (λ _. he.1 v l),
)
  where
    above : has e.members r.dependent ≡ true → (d < r.dependent) ⊎ (r.dependent ≤ d) → {v : ℕ} → d < v → r.dependent < v
    above t (inl l) h = absurd (true≢false (sym t ∙ he.1 r.dependent l))
    above t (inr l) h = omega arith

-- clearing by all rows
untouched_by_all : (rs : List Row) (e : Equation) (v : ℕ) → Each (λ q. has (members_of q) v ≡ false) rs → has (cleared rs e).members v ≡ has e.members v
untouched_by_all [] e v h = refl
untouched_by_all (r ∷ rs) e v h = untouched_by_all rs (cleared_by r e) v h.1 ∙ untouched r e v h.0

pub all_cleared : (rs : List Row) (e : Equation) → ReducedRows rs → Lacks rs (cleared rs e).members
all_cleared [] e h = tt
all_cleared (r ∷ rs) e h = (
  untouched_by_all rs (cleared_by r e) r.dependent (each_weaker (Disjoint r) (λ q. has (members_of q) r.dependent ≡ false) (λ q a. a.0) rs h.1) ∙ clears r e h.0.0,
  all_cleared rs (cleared_by r e) h.2,
)

pub satisfies_cleared : (n : ℕ) (s : Setting) (rs : List Row) (e : Equation) → fits n s rs ≡ true → satisfies n s (cleared rs e) ≡ satisfies n s e
satisfies_cleared n s [] e h = refl
satisfies_cleared n s (r ∷ rs) e h =
    let p = and_parts (satisfies n s r.equation) (fits n s rs) h in
    satisfies_cleared n s rs (cleared_by r e) p.1 ∙ satisfies_cleared_by n s r e p.0

-- the highest switch
abbrev pub HighestRight : List Bool → Option ℕ → Type 0
HighestRight set None = (v : ℕ) → has set v ≡ false
HighestRight set (Some d) = IsHighest set d

shifted_right : (b : Bool) (set : List Bool) (d : Option ℕ) → HighestRight set d → HighestRight (b ∷ set) (shifted b d)
shifted_right b set (Some zero) h = absurd (true≢false (sym h.0))
shifted_right b set (Some (suc d)) h = (h.0, elim [ zero ↦ λ l. refl | suc zero ↦ λ l. absurd (not-suc-le-zero (le_of_suc-le-suc l)) | suc (suc v) ↦ λ l. h.1 (suc v) (le_of_suc-le-suc l) ])
shifted_right true set None h = (refl, elim [ zero ↦ λ l. refl | suc zero ↦ λ l. absurd (not-suc-le-zero (le_of_suc-le-suc l)) | suc (suc v) ↦ λ l. h (suc v) ])
shifted_right false set None h = elim [ zero ↦ refl | suc zero ↦ refl | suc (suc v) ↦ h (suc v) ]

pub highest_right : (set : List Bool) → HighestRight set (highest set)
highest_right [] = elim [ zero ↦ refl | suc v ↦ refl ]
highest_right (b ∷ set) = shifted_right b set (highest set) (highest_right set)

-- one more row leaves the rows reduced
without_disjoint : (r q p : Row) → Disjoint q p → has (members_of r) q.dependent ≡ false → has (members_of r) p.dependent ≡ false → Disjoint (without r q) (without r p)
without_disjoint r q p a hq hp = (untouched r p.equation q.dependent hq ∙ a.0, untouched r q.equation p.dependent hp ∙ a.1)

without_disjoints : (r q : Row) (rs : List Row) → Each (Disjoint q) rs → has (members_of r) q.dependent ≡ false → Lacks rs (members_of r) → Each (Disjoint (without r q)) (map (without r) rs)
without_disjoints r q [] a hq hs = tt
without_disjoints r q (p ∷ rs) a hq hs = (without_disjoint r q p a.0 hq hs.0, without_disjoints r q rs a.1 hq hs.1)

pub joined_reduced : (rs : List Row) (r : Row) → IsHighest (members_of r) r.dependent → Lacks rs (members_of r) → ReducedRows rs → ReducedRows (joined rs r)
joined_reduced [] r l hs h = (l, tt, tt)
joined_reduced (q ∷ rs) r l hs h = (
  highest_stays r q.equation q.dependent l h.0 hs.0,
  each_append (Disjoint (without r q)) (map (without r) rs) (r ∷ []) (without_disjoints r q rs h.1 hs.0 hs.1) ((hs.0, clears r q.equation l.0), tt),
  joined_reduced rs r l hs.1 h.2,
)

placed_reduced : (rs : List Row) (e : Equation) (d : Option ℕ) → HighestRight e.members d → ReducedRows rs → Lacks rs e.members → ReducedIf (placed rs e d)
placed_reduced rs e None h red hs = cond_both e.odd None (Some rs) ReducedIf (λ _. tt) (λ _. red)
placed_reduced rs e (Some d) h red hs = joined_reduced rs (row d e) h hs red

pub extended_reduced : (o : Option (List Row)) (e : Equation) → ReducedIf o → ReducedIf (extended o e)
extended_reduced None e h = tt
extended_reduced (Some rs) e h = placed_reduced rs (cleared rs e) (highest (cleared rs e).members) (highest_right (cleared rs e).members) h (all_cleared rs e h)

pub reduce_reduced : (o : Option (List Row)) (es : List Equation) → ReducedIf o → ReducedIf (reduce_from o es)
reduce_reduced o [] h = h
reduce_reduced o (e ∷ es) h = reduce_reduced (extended o e) es (extended_reduced o e h)

-- and the same settings satisfy them
and_after : (a b c : Bool) → (a ≡ true → b ≡ c) → (b && a) ≡ (c && a)
and_after true b c h = ap (λ x. x && true) (h refl)
and_after false b c h = grind arith

and_later : (a b c : Bool) → (a ≡ true → b ≡ c) → (a && b) ≡ (a && c)
and_later true b c h = h refl
and_later false b c h = refl

fits_without : (n : ℕ) (s : Setting) (r : Row) (rs : List Row) → satisfies n s r.equation ≡ true → fits n s (map (without r) rs) ≡ fits n s rs
fits_without n s r [] h = refl
fits_without n s r (q ∷ rs) h = rw (satisfies_cleared_by n s r q.equation h, fits_without n s r rs h)

fits_push : (n : ℕ) (s : Setting) (rs : List Row) (r : Row) → fits n s (rs ++ (r ∷ [])) ≡ (fits n s rs && satisfies n s r.equation)
fits_push n s [] r = and-true (satisfies n s r.equation)
fits_push n s (q ∷ rs) r = ap (λ b. satisfies n s q.equation && b) (fits_push n s rs r) ∙ sym (and_assoc (satisfies n s q.equation) (fits n s rs) (satisfies n s r.equation))

pub fits_joined : (n : ℕ) (s : Setting) (rs : List Row) (r : Row) → fits n s (joined rs r) ≡ (fits n s rs && satisfies n s r.equation)
fits_joined n s rs r = fits_push n s (map (without r) rs) r ∙ and_after (satisfies n s r.equation) _ _ (fits_without n s r rs)

fits_placed : (n : ℕ) (s : Setting) (rs : List Row) (e : Equation) (d : Option ℕ) → HighestRight e.members d → fits_if n s (placed rs e d) ≡ (fits n s rs && satisfies n s e)
fits_placed n s rs e None h = rw (odd_in_none n e.members s h) (by e.odd)
  where
    by : (b : Bool) → fits_if n s (cond b None (Some rs)) ≡ (fits n s rs && same b false)
    by true = grind arith
    by false = sym (and-true (fits n s rs))
fits_placed n s rs e (Some d) h = fits_joined n s rs (row d e)

pub fits_extended : (n : ℕ) (s : Setting) (o : Option (List Row)) (e : Equation) → fits_if n s (extended o e) ≡ (fits_if n s o && satisfies n s e)
fits_extended n s None e = refl
fits_extended n s (Some rs) e =
    fits_placed n s rs (cleared rs e) (highest (cleared rs e).members) (highest_right (cleared rs e).members) ∙ and_later (fits n s rs) _ _ (satisfies_cleared n s rs e)

fits_reduced : (n : ℕ) (s : Setting) (o : Option (List Row)) (es : List Equation) → fits_if n s (reduce_from o es) ≡ (fits_if n s o && satisfies_all n s es)
fits_reduced n s o [] = sym (and-true (fits_if n s o))
fits_reduced n s o (e ∷ es) =
    fits_reduced n s (extended o e) es ∙ ap (λ b. b && satisfies_all n s es) (fits_extended n s o e) ∙ and_assoc (fits_if n s o) (satisfies n s e) (satisfies_all n s es)

pub fits_reduce : (n : ℕ) (s : Setting) (es : List Equation) → fits_if n s (reduce es) ≡ satisfies_all n s es
fits_reduce n s es = fits_reduced n s (Some []) es
