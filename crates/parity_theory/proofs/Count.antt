-- How many settings satisfy reduced rows.
use Rattle.std.proofs.Common.{◌≡◌, ℕ, zero, suc, ◌+◌, ◌-◌, ◌^◌, ◌<◌, ◌≤◌, Bool, true, false, cond, not, ◌&&◌, ◌⊎◌, List, [], ◌∷◌, length, filter, sym, refl, ap, ◌∙◌, subst, ap₂, inl, inr, true≢false, arith, pow_pos}
use native.Mathlib.Nat.{two-pow-succ}
use Rattle.std.proofs.lemmas.List.{get_or_append_left, get_or_push}
use Rattle.std.proofs.lemmas.Bool.{cases_eq}
use Rattle.rules.specs.Settings.{Setting, Within, setting}
use Rattle.rules.specs.Constraints.{xor, same, Each}
use Rattle.parity_theory.specs.Equations.{has, odd_in, satisfies}
use Rattle.parity_theory.specs.Writing.{settings}
use Rattle.parity_theory.specs.Reducing.{Row}
use Rattle.parity_theory.proofs.Lists.{each_weaker}
use Rattle.parity_theory.proofs.Systems.{members_of, Disjoint, ReducedRows, fits}
use Rattle.parity_theory.proofs.Settings.{with_last, both_ends, settings_by_last, settings_sized}

-- how many settings of n switches pass the test
unfoldable pub count : ℕ → (List Bool → Bool) → ℕ
count n p = length (filter p (settings n))

kept_same : {X : Type 0} (p q : X → Bool) (xs : List X) → Each (λ x. p x ≡ q x) xs → filter p xs ≡ filter q xs
kept_same p q [] h = refl
kept_same p q (x ∷ xs) h = rw (h.0, kept_same p q xs h.1)

kept_parts : {X : Type 0} (f p : X → Bool) (xs : List X) → length (filter (λ x. f x && p x) xs) + length (filter (λ x. not (f x) && p x) xs) ≡ length (filter p xs)
kept_parts f p [] = refl
kept_parts f p (x ∷ xs) = let ih = kept_parts f p xs in grind arith

kept_ends : (p : List Bool → Bool) (ss : List (List Bool)) → length (filter p (both_ends ss)) ≡ length (filter (λ s. p (with_last false s)) ss) + length (filter (λ s. p (with_last true s)) ss)
kept_ends p [] = refl
kept_ends p (s ∷ ss) = let ih = kept_ends p ss in grind arith

pub count_same : (n : ℕ) (p q : List Bool → Bool) → ((s : List Bool) → length s ≡ n → p s ≡ q s) → count n p ≡ count n q
unfolding count
count_same n p q h = ap length (kept_same p q (settings n) (each_weaker (λ s. length s ≡ n) (λ s. p s ≡ q s) h (settings n) (settings_sized n)))

count_suc : (n : ℕ) (p : List Bool → Bool) → count (suc n) p ≡ count n (λ s. p (with_last false s)) + count n (λ s. p (with_last true s))
unfolding count
count_suc n p = ap (λ ss. length (filter p ss)) (settings_by_last n) ∙ kept_ends p (settings n)

-- one switch more
odd_in_below : (m : ℕ) (set s : List Bool) (b : Bool) → m ≤ length s → odd_in m set (setting (with_last b s)) ≡ odd_in m set (setting s)
odd_in_below zero set s b h = refl
odd_in_below (suc m) set s b h = rw (get_or_append_left s (b ∷ []) false m h, odd_in_below m set s b (omega arith))

odd_in_more : (n : ℕ) (set s : List Bool) (b : Bool) → length s ≡ n → odd_in (suc n) set (setting (with_last b s)) ≡ xor (has set (suc n) && b) (odd_in n set (setting s))
odd_in_more n set s b e = rw (get_or_push s b false n e, odd_in_below n set s b (omega arith))

fits_below : (n : ℕ) (s : List Bool) (b : Bool) (rs : List Row) → Each (λ r. has (members_of r) (suc n) ≡ false) rs → length s ≡ n → fits (suc n) (setting (with_last b s)) rs ≡ fits n (setting s) rs
fits_below n s b [] h e = refl
fits_below n s b (r ∷ rs) h e = rw (odd_in_more n (members_of r) s b e, h.0, fits_below n s b rs h.1 e)

-- one row out of a list, and the rest
pub data Pick : Row → List Row → List Row → Type 0 where
  here : {r : Row} {rs : List Row} → Pick r rs (r ∷ rs)
  there : {r q : Row} {rest rs : List Row} → Pick r rest rs → Pick r (q ∷ rest) (q ∷ rs)

pub pick_each : (P : Row → Type 0) {r : Row} {rest rs : List Row} → Pick r rest rs → Each P rs → P r × Each P rest
pick_each P here h = h
pick_each P (there p) h = let t = pick_each P p h.1 in (t.0, (h.0, t.1))

pick_length : {r : Row} {rest rs : List Row} → Pick r rest rs → length rs ≡ suc (length rest)
pick_length here = refl
pick_length (there p) = ap suc (pick_length p)

and_swap : (a b c : Bool) → (a && (b && c)) ≡ (b && (a && c))
and_swap a b c = grind arith

pub pick_fits : (n : ℕ) (s : Setting) {r : Row} {rest rs : List Row} → Pick r rest rs → fits n s rs ≡ (satisfies n s r.equation && fits n s rest)
pick_fits n s here = refl
pick_fits n s (there {r = r} {q = q} {rest = rest} p) = ap (λ b. satisfies n s q.equation && b) (pick_fits n s p) ∙ and_swap (satisfies n s q.equation) (satisfies n s r.equation) (fits n s rest)

pub pick_reduced : {r : Row} {rest rs : List Row} → Pick r rest rs → ReducedRows rs → ReducedRows (r ∷ rest)
pick_reduced here h = h
pick_reduced (there {q = q} p) h =
    let i = pick_reduced p h.2 in
    let a = pick_each (Disjoint q) p h.1 in
    (i.0, ((a.0.1, a.0.0), i.1), (h.0, a.1, i.2))

-- the row with the dependent d, or there is none
pub pick : (d : ℕ) (rs : List Row) → Each (λ r. r.dependent ≡ d → ⊥) rs ⊎ ((r : Row) × (rest : List Row) × (r.dependent ≡ d) × Pick r rest rs)
pick d [] = inl tt
pick d (q ∷ rs) = go (cases_eq q.dependent d) (pick d rs)
  where
    go : (q.dependent ≡ d) ⊎ (q.dependent ≡ d → ⊥) → Each (λ r. r.dependent ≡ d → ⊥) rs ⊎ ((r : Row) × (rest : List Row) × (r.dependent ≡ d) × Pick r rest rs) → Each (λ r. r.dependent ≡ d → ⊥) (q ∷ rs) ⊎ ((r : Row) × (rest : List Row) × (r.dependent ≡ d) × Pick r rest (q ∷ rs))
    go (inl e) _ = inr (q, rs, e, here)
    go (inr ne) (inl a) = inl (ne, a)
    go (inr ne) (inr t) = inr (t.0, q ∷ t.1, t.2, there t.3)

-- the dependents are among n switches
abbrev pub Bounded : ℕ → List Row → Type 0
Bounded n rs = Each (λ r. Within n r.dependent) rs

-- where no dependent is the highest switch, no row has that switch
lower : (n : ℕ) (rs : List Row) → ReducedRows rs → Bounded (suc n) rs → Each (λ r. r.dependent ≡ suc n → ⊥) rs → Bounded n rs × Each (λ r. has (members_of r) (suc n) ≡ false) rs
lower n [] red b ne = (tt, tt)
lower n (r ∷ rs) red b ne =
    let w = b.0 in
    let l : r.dependent < suc n = omega (arith, ne.0) in
    let i = lower n rs red.2 b.1 ne.1 in
    ((omega arith, i.0), (red.0.1 (suc n) l, i.1))

-- a dependent switch has one value for each setting of the lower ones
determined : (n : ℕ) (r : Row) (rest : List Row) → has (members_of r) (suc n) ≡ true → Each (λ q. has (members_of q) (suc n) ≡ false) rest → count (suc n) (λ s. satisfies (suc n) (setting s) r.equation && fits (suc n) (setting s) rest) ≡ count n (λ s. fits n (setting s) rest)
unfolding count
determined n r rest mine others =
    count_suc n _
    ∙ ap₂ ◌+◌ (count_same n _ (λ s. satisfies n (setting s) r.equation && fits n (setting s) rest) off) (count_same n _ (λ s. not (satisfies n (setting s) r.equation) && fits n (setting s) rest) on)
    ∙ kept_parts (λ s. satisfies n (setting s) r.equation) (λ s. fits n (setting s) rest) (settings n)
  where
    off : (s : List Bool) → length s ≡ n → (satisfies (suc n) (setting (with_last false s)) r.equation && fits (suc n) (setting (with_last false s)) rest) ≡ (satisfies n (setting s) r.equation && fits n (setting s) rest)
    off s e = rw (fits_below n s false rest others e, odd_in_more n (members_of r) s false e, mine)

    flip : (a b : Bool) → same b (not a) ≡ not (same b a)
    flip a b = grind arith

    on : (s : List Bool) → length s ≡ n → (satisfies (suc n) (setting (with_last true s)) r.equation && fits (suc n) (setting (with_last true s)) rest) ≡ (not (satisfies n (setting s) r.equation) && fits n (setting s) rest)
    on s e = rw (fits_below n s true rest others e, odd_in_more n (members_of r) s true e, mine, flip (odd_in n (members_of r) (setting s)) r.equation.odd)

abbrev Counts : ℕ → List Row → Type 0
Counts n rs = (f : ℕ) × (f + length rs ≡ n) × (count n (λ s. fits n (setting s) rs) ≡ 2 ^ f)

free_case : (n : ℕ) (rs : List Row) → Each (λ r. has (members_of r) (suc n) ≡ false) rs → Counts n rs → Counts (suc n) rs
free_case n rs h i = (
  suc i.0,
  omega (arith, i.1),
  count_suc n _ ∙ ap₂ ◌+◌ (count_same n _ _ (λ s e. fits_below n s false rs h e)) (count_same n _ _ (λ s e. fits_below n s true rs h e)) ∙ ap₂ ◌+◌ i.2 i.2 ∙ sym (two-pow-succ i.0),
)

dependent_case : (n : ℕ) (r : Row) (rest rs : List Row) → Pick r rest rs → has (members_of r) (suc n) ≡ true → Each (λ q. has (members_of q) (suc n) ≡ false) rest → Counts n rest → Counts (suc n) rs
dependent_case n r rest rs p mine others i =
    (i.0, omega (arith, i.1, pick_length p), count_same (suc n) _ _ (λ s _. pick_fits (suc n) (setting s) p) ∙ determined n r rest mine others ∙ i.2)

-- where r has the switch d, no row that is disjoint from r has d for its dependent
pub others : (d : ℕ) (r : Row) (rest : List Row) → has (members_of r) d ≡ true → Each (Disjoint r) rest → Each (λ q. q.dependent ≡ d → ⊥) rest
others d r rest mine a = each_weaker (Disjoint r) (λ q. q.dependent ≡ d → ⊥) (λ q h e. true≢false (sym mine ∙ sym (ap (has (members_of r)) e) ∙ h.1)) rest a

counts : (n : ℕ) (rs : List Row) → ReducedRows rs → Bounded n rs → Counts n rs
unfolding count
counts zero [] red b = (0, refl, refl)
counts zero (r ∷ rs) red b = let w = b.0 in absurd (omega arith)
counts (suc n) rs red b = go (λ qs. counts n qs) (pick (suc n) rs)
  where
    go : ((qs : List Row) → ReducedRows qs → Bounded n qs → Counts n qs) → Each (λ r. r.dependent ≡ suc n → ⊥) rs ⊎ ((r : Row) × (rest : List Row) × (r.dependent ≡ suc n) × Pick r rest rs) → Counts (suc n) rs
    go ih (inl ne) =
        let l = lower n rs red b ne in
        free_case n rs l.1 (ih rs red l.0)
    go ih (inr t) =
        let r = t.0 in
        let rest = t.1 in
        let h = pick_reduced t.3 red in
        let mine : has (members_of r) (suc n) ≡ true = subst (λ d. has (members_of r) d ≡ true) t.2 h.0.0 in
        let l = lower n rest h.2 (pick_each (λ q. Within (suc n) q.dependent) t.3 b).1 (others (suc n) r rest mine h.1) in
        dependent_case n r rest rs t.3 mine l.1 (ih rest h.2 l.0)

pub counted : (n : ℕ) (rs : List Row) → ReducedRows rs → Bounded n rs → (length rs ≤ n) × (count n (λ s. fits n (setting s) rs) ≡ 2 ^ (n - length rs))
counted n rs red b =
    let c = counts n rs red b in
    let e : c.0 ≡ n - length rs = omega (arith, c.1) in
    (omega (arith, c.1), c.2 ∙ ap (λ k. 2 ^ k) e)

-- so some setting satisfies them
first_kept : {X : Type 0} (p : X → Bool) (xs : List X) → 0 < length (filter p xs) → (x : X) × (p x ≡ true)
first_kept p [] h = absurd (omega arith)
first_kept p (x ∷ xs) h = go (first_kept p xs) (p x) refl h
  where
    go : (0 < length (filter p xs) → (y : _) × (p y ≡ true)) → (b : Bool) → p x ≡ b → 0 < length (cond b (x ∷ filter p xs) (filter p xs)) → (y : _) × (p y ≡ true)
    go ih true e h = (x, e)
    go ih false e h = ih h

pub witness : (n : ℕ) (rs : List Row) → ReducedRows rs → Bounded n rs → (s : Setting) × (fits n s rs ≡ true)
unfolding count
witness n rs red b =
    let c = counted n rs red b in
    let w = first_kept (λ s. fits n (setting s) rs) (settings n) (omega (arith, c.1, pow_pos (n - length rs))) in
    (setting w.0, w.1)
