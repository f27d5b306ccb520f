-- Lists of different switches and the sets that they are.
use Rattle.std.proofs.Common.{◌≡◌, ℕ, zero, suc, ◌+◌, ◌<◌, Bool, true, false, not, ◌&&◌, eqb, leb, ◌⊎◌, List, [], ◌∷◌, map, length, sym, refl, ap, ◌∙◌, ap₂, inl, inr, arith}
use Rattle.std.specs.List.{range_with_len}
use Rattle.std.proofs.lemmas.List.FromFn.{get_or-map-range_with_len, length-map-range_with_len}
use Rattle.std.proofs.lemmas.Bool.{cases_lt, cases_eq, and_parts, and_from, eq-eqb, ne_eqb, leb-true}
use Rattle.rules.specs.declared.kinds.Side.{Side}
use Rattle.rules.specs.First.{every}
use Rattle.rules.specs.Settings.{Setting, Within}
use Rattle.rules.specs.Constraints.{Constraint, parity, kind, switches, xor, same, odd_on, is_odd, kept}
use Rattle.rules.specs.Lawful.{inside, absent, different, width_fits, lawful}
use Rattle.rules.specs.Rows.{bit, tally}
use Rattle.parity_theory.specs.Equations.{has, set_of, odd_in, equation, satisfies}
use Rattle.parity_theory.proofs.Bounds.{has_past}

-- different switches from 1 to n
pub record Proper (n : ℕ) (vs : List ℕ) : Type 0 where
  pub ranged : every (inside n) vs ≡ true
  pub apart : different vs ≡ true

pub lawful_proper : (n : ℕ) (r : Constraint) → lawful n r ≡ true → Proper n (switches r)
lawful_proper n r h =
    let p = and_parts (width_fits (kind r) (length (switches r))) _ h in
    let q = and_parts (every (inside n) (switches r)) (different (switches r)) p.1 in
    record { ranged = q.0; apart = q.1 }

pub proper_tail : (n v : ℕ) (vs : List ℕ) → Proper n (v ∷ vs) → Proper n vs
proper_tail n v vs h = record { ranged = (and_parts (inside n v) (every (inside n) vs) h.ranged).1; apart = (and_parts (absent v vs) (different vs) h.apart).1 }

pub proper_new : (n v : ℕ) (vs : List ℕ) → Proper n (v ∷ vs) → absent v vs ≡ true
proper_new n v vs h = (and_parts (absent v vs) (different vs) h.apart).0

inside_within : (n v : ℕ) → inside n v ≡ true → Within n v
inside_within n v h = let p = and_parts (leb 1 v) (leb v n) h in (leb-true 1 v p.0, leb-true v n p.1)

pub proper_first : (n v : ℕ) (vs : List ℕ) → Proper n (v ∷ vs) → Within n v
proper_first n v vs h = inside_within n v (and_parts (inside n v) (every (inside n) vs) h.ranged).0

-- what is not from 1 to n is absent
pub absent_outside : (n v : ℕ) (vs : List ℕ) → every (inside n) vs ≡ true → (Within n v → ⊥) → absent v vs ≡ true
absent_outside n v [] h out = refl
absent_outside n v (w ∷ vs) h out =
    let p = and_parts (inside n w) (every (inside n) vs) h in
    let u = inside_within n w p.0 in
    and_from (not (eqb v w)) (absent v vs) (ap not (ne_eqb v w (λ e. out (omega arith)))) (absent_outside n v vs p.1 out)

-- the set has the switches of the list
set_has_within : (n : ℕ) (vs : List ℕ) (v : ℕ) → Within n v → has (set_of n vs) v ≡ not (absent v vs)
set_has_within n vs zero w = absurd (omega arith)
set_has_within n vs (suc v) w = get_or-map-range_with_len (λ k. not (absent k vs)) 1 n v (suc v) false (omega arith) (omega arith)

pub set_length : (n : ℕ) (vs : List ℕ) → length (set_of n vs) ≡ n
set_length n vs = length-map-range_with_len (λ v. not (absent v vs)) 1 n

pub set_has : (n : ℕ) (vs : List ℕ) → every (inside n) vs ≡ true → (v : ℕ) → has (set_of n vs) v ≡ not (absent v vs)
set_has n vs h zero = ap not (sym (absent_outside n 0 vs h (λ w. omega arith)))
set_has n vs h (suc v) =
    elim (cases_lt n (suc v)) [
      | inl l ↦ has_past (set_of n vs) (suc v) (omega (arith, set_length n vs)) ∙ ap not (sym (absent_outside n (suc v) vs h (λ w. omega arith)))
      | inr l ↦ set_has_within n vs (suc v) (omega arith)
    ]

-- sums over a set that is given by a test
odd_where : ℕ → (ℕ → Bool) → Setting → Bool
odd_where zero f s = false
odd_where (suc n) f s = xor (f (suc n) && s (suc n)) (odd_where n f s)

among : List ℕ → ℕ → Bool
among vs v = not (absent v vs)

odd_in_where : (n : ℕ) (set : List Bool) (f : ℕ → Bool) (s : Setting) → ((v : ℕ) → has set v ≡ f v) → odd_in n set s ≡ odd_where n f s
unfolding odd_where
odd_in_where zero set f s h = refl
odd_in_where (suc n) set f s h = rw (h (suc n), odd_in_where n set f s h)

odd_where_past : (n v : ℕ) (vs : List ℕ) (s : Setting) → n < v → odd_where n (among (v ∷ vs)) s ≡ odd_where n (among vs) s
unfolding odd_where among
odd_where_past zero v vs s h = refl
odd_where_past (suc n) v vs s h = rw (ne_eqb (suc n) v (λ e. omega arith), odd_where_past n v vs s (omega arith))

xor_swap : (a b c : Bool) → xor a (xor b c) ≡ xor b (xor a c)
xor_swap a b c = grind arith

odd_where_more : (n v : ℕ) (vs : List ℕ) (s : Setting) → absent v vs ≡ true → Within n v → odd_where n (among (v ∷ vs)) s ≡ xor (s v) (odd_where n (among vs) s)
unfolding odd_where among
odd_where_more zero v vs s new w = absurd (omega arith)
odd_where_more (suc n) v vs s new w = go (λ u. odd_where_more n v vs s new u) (cases_eq (suc n) v)
  where
    go : (Within n v → odd_where n (among (v ∷ vs)) s ≡ xor (s v) (odd_where n (among vs) s)) → (suc n ≡ v) ⊎ (suc n ≡ v → ⊥) → odd_where (suc n) (among (v ∷ vs)) s ≡ xor (s v) (odd_where (suc n) (among vs) s)
    go ih (inl e) =
        let gone : absent (suc n) vs ≡ true = ap (λ k. absent k vs) e ∙ new in
        rw (eq-eqb (suc n) v e, odd_where_past n v vs s (omega arith), gone) (ap (λ k. xor (s k) (odd_where n (among vs) s)) e)
    go ih (inr ne) = rw (ne_eqb (suc n) v ne, ih (omega arith)) (xor_swap (not (absent (suc n) vs) && s (suc n)) (s v) (odd_where n (among vs) s))

odd_where_none : (n : ℕ) (s : Setting) → odd_where n (among []) s ≡ false
unfolding odd_where among
odd_where_none zero s = refl
odd_where_none (suc n) s = odd_where_none n s

odd_where_list : (n : ℕ) (s : Setting) (vs : List ℕ) → Proper n vs → odd_where n (among vs) s ≡ odd_on s vs
odd_where_list n s [] h = odd_where_none n s
odd_where_list n s (v ∷ vs) h = odd_where_more n v vs s (proper_new n v vs h) (proper_first n v vs h) ∙ ap (xor (s v)) (odd_where_list n s vs (proper_tail n v vs h))

pub odd_in_list : (n : ℕ) (s : Setting) (vs : List ℕ) → Proper n vs → odd_in n (set_of n vs) s ≡ odd_on s vs
unfolding among
odd_in_list n s vs h = odd_in_where n (set_of n vs) (among vs) s (set_has n vs h.ranged) ∙ odd_where_list n s vs h

-- a setting keeps a parity rule where it satisfies the equation
pub kept_satisfies : (n : ℕ) (s : Setting) (vs : List ℕ) (side : Side) → Proper n vs → kept s (parity vs side) ≡ satisfies n s (equation n vs side)
kept_satisfies n s vs side h = ap (same (is_odd side)) (sym (odd_in_list n s vs h))

-- how many switches are absent
tally_past : (n v : ℕ) (vs : List ℕ) → n < v → tally (λ k. absent k (v ∷ vs)) n ≡ tally (λ k. absent k vs) n
tally_past zero v vs h = refl
tally_past (suc n) v vs h = rw (ne_eqb (suc n) v (λ e. omega arith), tally_past n v vs (omega arith))

tally_more : (n v : ℕ) (vs : List ℕ) → absent v vs ≡ true → Within n v → suc (tally (λ k. absent k (v ∷ vs)) n) ≡ tally (λ k. absent k vs) n
tally_more zero v vs new w = absurd (omega arith)
tally_more (suc n) v vs new w = go (λ u. tally_more n v vs new u) (cases_eq (suc n) v)
  where
    go : (Within n v → suc (tally (λ k. absent k (v ∷ vs)) n) ≡ tally (λ k. absent k vs) n) → (suc n ≡ v) ⊎ (suc n ≡ v → ⊥) → suc (tally (λ k. absent k (v ∷ vs)) (suc n)) ≡ tally (λ k. absent k vs) (suc n)
    go ih (inl e) =
        let here : absent (suc n) vs ≡ true = ap (λ k. absent k vs) e ∙ new in
        rw (eq-eqb (suc n) v e, tally_past n v vs (omega arith), here) (omega arith)
    go ih (inr ne) = rw (ne_eqb (suc n) v ne) (omega (arith, ih (omega arith)))

tally_none : (n : ℕ) → tally (λ k. absent k []) n ≡ n
tally_none zero = refl
tally_none (suc n) = omega (arith, tally_none n)

pub tally_absent : (n : ℕ) (vs : List ℕ) → Proper n vs → tally (λ v. absent v vs) n + length vs ≡ n
tally_absent n [] h = omega (arith, tally_none n)
tally_absent n (v ∷ vs) h = omega (arith, tally_more n v vs (proper_new n v vs h) (proper_first n v vs h), tally_absent n vs (proper_tail n v vs h))

pub tally_same : (f g : ℕ → Bool) → ((v : ℕ) → f v ≡ g v) → (n : ℕ) → tally f n ≡ tally g n
tally_same f g h zero = refl
tally_same f g h (suc n) = ap₂ (λ k b. k + bit b) (tally_same f g h n) (h (suc n))

-- two lists of the same switches
abbrev pub Alike : List ℕ → List ℕ → Type 0
Alike vs ws = (v : ℕ) → absent v vs ≡ absent v ws

pub alike_length : (n : ℕ) (vs ws : List ℕ) → Proper n vs → Proper n ws → Alike vs ws → length vs ≡ length ws
alike_length n vs ws h k same = omega (arith, tally_absent n vs h, tally_absent n ws k, tally_same (λ v. absent v vs) (λ v. absent v ws) same n)

pub alike_set : (n : ℕ) (vs ws : List ℕ) → Alike vs ws → set_of n vs ≡ set_of n ws
alike_set n vs ws same = λ i. map (λ v. not (same v i)) (range_with_len 1 n)

pub alike_odd : (n : ℕ) (s : Setting) (vs ws : List ℕ) → Proper n vs → Proper n ws → Alike vs ws → odd_on s vs ≡ odd_on s ws
alike_odd n s vs ws h k same = sym (odd_in_list n s vs h) ∙ ap (λ set. odd_in n set s) (alike_set n vs ws same) ∙ odd_in_list n s ws k

not_equal : (a b : Bool) → not a ≡ not b → a ≡ b
not_equal a b h = grind arith

pub set_alike : (n : ℕ) (vs ws : List ℕ) → Proper n vs → Proper n ws → set_of n vs ≡ set_of n ws → Alike vs ws
set_alike n vs ws h k e v = not_equal _ _ (sym (set_has n vs h.ranged v) ∙ ap (λ set. has set v) e ∙ set_has n ws k.ranged v)
