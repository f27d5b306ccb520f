-- Two lists of reduced rows that the same settings satisfy have the same rows.
use Rattle.std.proofs.Common.{◌≡◌, ℕ, suc, ◌-◌, ◌^◌, ◌<◌, ◌≤◌, Bool, true, false, ◌&&◌, ◌⊎◌, List, [], ◌∷◌, map, length, Some, None, Option, sym, refl, ap, ◌∙◌, ap₂, inl, inr, true≢false, arith, length-append, pow_pos}
use native.Mathlib.Nat.{two-pow-succ}
use Rattle.std.proofs.lemmas.List.{ext_get_or, length-map}
use Rattle.std.proofs.lemmas.Bool.{cond_both, cases_lt, and_parts}
use Rattle.rules.specs.Settings.{Setting, setting}
use Rattle.rules.specs.Constraints.{xor, same, Each, SomeOf}
use Rattle.parity_theory.specs.Equations.{has, difference, odd_in, Equation, plus, satisfies}
use Rattle.parity_theory.specs.Reducing.{Row, row, highest, cleared_by, cleared, without, joined}
use Rattle.parity_theory.proofs.Lists.{each_weaker, each_zip}
use Rattle.parity_theory.proofs.Sums.{difference_has, satisfies_plus}
use Rattle.parity_theory.proofs.Systems.{IsHighest, members_of, Disjoint, ReducedRows, fits, HighestRight, highest_right, all_cleared, satisfies_cleared, joined_reduced, fits_joined}
use Rattle.parity_theory.proofs.Bounds.{Sized, AllSized, difference_length, sized_cleared, sized_joined, dependents_within}
use Rattle.parity_theory.proofs.Count.{count_same, counted, Pick, here, there, pick, pick_each, pick_fits, pick_reduced, witness}

-- what satisfies the rows satisfies the equation
abbrev pub Implied : ℕ → List Row → Equation → Type 0
Implied n rs e = (s : Setting) → fits n s rs ≡ true → satisfies n s e ≡ true

and_when : (a b : Bool) → (a ≡ true → b ≡ true) → (a && b) ≡ a
and_when true b h = h refl
and_when false b h = refl

unequal : (n b r : ℕ) → r ≡ suc b → r ≤ n → 2 ^ (n - r) ≡ 2 ^ (n - b) → ⊥
unequal n b r e l q =
    let f : n - b ≡ suc (n - r) = omega arith in
    omega (arith, pow_pos (n - r), two-pow-succ (n - r), rw f at q)

joined_length : (rs : List Row) (r : Row) → length (joined rs r) ≡ suc (length rs)
joined_length rs r = length-append (map (without r) rs) (r ∷ []) ∙ omega (arith, length-map rs (without r))

-- an implied equation is cleared to nothing: as a further row it would halve the number of settings
pub implied_cleared : (n : ℕ) (rs : List Row) (e : Equation) → ReducedRows rs → AllSized n rs → Sized n e → Implied n rs e → (v : ℕ) → has (cleared rs e).members v ≡ false
implied_cleared n rs e red sized size imp = go (highest (cleared rs e).members) (highest_right (cleared rs e).members)
  where
    go : (d : Option ℕ) → HighestRight (cleared rs e).members d → (v : ℕ) → has (cleared rs e).members v ≡ false
    go None h = h
    go (Some d) h =
        let r = row d (cleared rs e) in
        let red2 : ReducedRows (joined rs r) = joined_reduced rs r h (all_cleared rs e red) red in
        let sized2 : AllSized n (joined rs r) = sized_joined n rs r sized (sized_cleared n rs e sized size) in
        let c = counted n rs red (dependents_within n rs red sized) in
        let c2 = counted n (joined rs r) red2 (dependents_within n (joined rs r) red2 sized2) in
        let q = count_same n (λ s. fits n (setting s) (joined rs r)) (λ s. fits n (setting s) rs)
        (λ s _. fits_joined n (setting s) rs r ∙ and_when _ _ (λ k. satisfies_cleared n (setting s) rs e k ∙ imp (setting s) k)) in
        absurd (unequal n (length rs) (length (joined rs r)) (joined_length rs r) c2.0 (sym c2.1 ∙ q ∙ c.1))

-- a highest switch that is no dependent stays
highest_through : (rs : List Row) (e : Equation) (d : ℕ) → ReducedRows rs → Each (λ q. q.dependent ≡ d → ⊥) rs → IsHighest e.members d → IsHighest (cleared rs e).members d
highest_through [] e d red ne h = h
highest_through (q ∷ rs) e d red ne h = highest_through rs (cleared_by q e) d red.2 ne.1 (one (cases_lt d q.dependent))
  where
    one : (d < q.dependent) ⊎ (q.dependent ≤ d) → IsHighest (cleared_by q e).members d
    one c = cond_both (has e.members q.dependent) (plus e q.equation) e (λ x. IsHighest x.members d) (λ t. summed (below t c)) (λ _. h)
      where
        below : has e.members q.dependent ≡ true → (d < q.dependent) ⊎ (q.dependent ≤ d) → q.dependent < d
        below t (inl l) = absurd (true≢false (sym t ∙ h.1 q.dependent l))
        below t (inr l) = omega (arith, ne.0)

        summed : q.dependent < d → IsHighest (difference e.members (members_of q)) d
        summed l = (difference_has e.members (members_of q) d ∙ rw (h.0, red.0.1 d l), λ v g. difference_has e.members (members_of q) v ∙ rw (h.1 v g, red.0.1 v (omega arith)))

cleared_same : (rs : List Row) (e : Equation) → Each (λ q. has e.members q.dependent ≡ false) rs → cleared rs e ≡ e
cleared_same [] e a = refl
cleared_same (q ∷ rs) e a = let same : cleared_by q e ≡ e = rw a.0 in rw same (cleared_same rs e a.1)

-- each row of a list can be picked
all_picked : (rs : List Row) → Each (λ r. (rest : List Row) × Pick r rest rs) rs
all_picked [] = tt
all_picked (r ∷ rs) = ((rs, here), each_weaker (λ q. (rest : List Row) × Pick q rest rs) (λ q. (rest : List Row) × Pick q rest (r ∷ rs)) (λ q p. (r ∷ p.0, there p.1)) rs (all_picked rs))

pick_some : {r : Row} {rest rs : List Row} (P : Row → Type 0) → P r → Pick r rest rs → SomeOf P rs
pick_some P h here = inl h
pick_some P h (there p) = inr (pick_some P h p)

pick_implied : (n : ℕ) {r : Row} {rest rs : List Row} → Pick r rest rs → Implied n rs r.equation
pick_implied n {r} {rest} p s k = (and_parts (satisfies n s r.equation) (fits n s rest) (sym (pick_fits n s p) ∙ k)).0

pick_back : (P : Row → Type 0) {r : Row} {rest rs : List Row} → Pick r rest rs → P r → Each P rest → Each P rs
pick_back P here h a = (h, a)
pick_back P (there p) h a = (a.0, pick_back P p h a.1)

-- the row of the same dependent
abbrev Partner : List Row → Row → Type 0
Partner qs r = (q : Row) × (rest : List Row) × (q.dependent ≡ r.dependent) × Pick q rest qs

xor_equal : (a b : Bool) → xor a b ≡ false → a ≡ b
xor_equal a b h = grind arith

same_sides : (a b c : Bool) → same b a ≡ true → same c a ≡ true → b ≡ c
same_sides a b c h k = grind arith

-- every dependent of the rows is one of the other rows
module _ (n : ℕ) (rs qs : List Row) (red-r : ReducedRows rs) (red-q : ReducedRows qs) (size-r : AllSized n rs) (size-q : AllSized n qs) (same_fit : (s : Setting) → fits n s rs ≡ fits n s qs) where
  implied_there : {r : Row} {rest : List Row} → Pick r rest rs → Implied n qs r.equation
  implied_there p s k = pick_implied n p s (same_fit s ∙ k)

  partner : (r : Row) → (rest : List Row) × Pick r rest rs → Partner qs r
  partner r p = go (pick r.dependent qs)
    where
      go : Each (λ q. q.dependent ≡ r.dependent → ⊥) qs ⊎ ((q : Row) × (rest : List Row) × (q.dependent ≡ r.dependent) × Pick q rest qs) → Partner qs r
      go (inl ne) =
          let stays = highest_through qs r.equation r.dependent red-q ne (pick_reduced p.1 red-r).0 in
          let gone = implied_cleared n qs r.equation red-q size-q (pick_each (λ u. Sized n u.equation) p.1 size-r).0 (implied_there p.1) r.dependent in
          absurd (true≢false (sym stays.0 ∙ gone))
      go (inr t) = t

  partners : Each (Partner qs) rs
  partners = each_weaker (λ r. (rest : List Row) × Pick r rest rs) (Partner qs) partner rs (all_picked rs)

-- and partners are equal
module _ (n : ℕ) (rs qs : List Row) (red-r : ReducedRows rs) (red-q : ReducedRows qs) (size-r : AllSized n rs) (size-q : AllSized n qs) (same_fit : (s : Setting) → fits n s rs ≡ fits n s qs) where
  -- r has no other dependent of rs
  own_only : {r : Row} {rest : List Row} → Pick r rest rs → Each (λ u. (u.dependent ≡ r.dependent) ⊎ (has (members_of r) u.dependent ≡ false)) rs
  own_only {r} {rest} p = pick_back (λ u. (u.dependent ≡ r.dependent) ⊎ (has (members_of r) u.dependent ≡ false)) p (inl refl) (each_weaker (Disjoint r) (λ u. (u.dependent ≡ r.dependent) ⊎ (has (members_of r) u.dependent ≡ false)) (λ u a. inr a.1) rest (pick_reduced p red-r).1)

  back : Each (Partner rs) qs
  back = partners n qs rs red-q red-r size-q size-r (λ s. sym (same_fit s))

  -- the sum of two partners has no dependent
  other_lacks : {r : Row} {rest : List Row} → Pick r rest rs → (q : Row) → q.dependent ≡ r.dependent → has (members_of q) q.dependent ≡ true → (u : Row) → Disjoint q u → Partner rs u → has (difference (members_of r) (members_of q)) u.dependent ≡ false
  other_lacks {r} p q e mine u a t = difference_has (members_of r) (members_of q) u.dependent ∙ ap₂ xor (go (pick_each (λ w. (w.dependent ≡ r.dependent) ⊎ (has (members_of r) w.dependent ≡ false)) t.3 (own_only p)).0) a.1
    where
      go : (t.0.dependent ≡ r.dependent) ⊎ (has (members_of r) t.0.dependent ≡ false) → has (members_of r) u.dependent ≡ false
      go (inl h) = absurd (true≢false (sym mine ∙ ap (has (members_of q)) (e ∙ sym h ∙ t.2) ∙ a.1))
      go (inr h) = ap (has (members_of r)) (sym t.2) ∙ h

  equal : (r : Row) (rest : List Row) → Pick r rest rs → (q : Row) (others : List Row) → q.dependent ≡ r.dependent → Pick q others qs → r ≡ q
  equal r rest p q others e pq =
      let high-r = (pick_reduced p red-r).0 in
      let high-q = pick_reduced pq red-q in
      let z = plus r.equation q.equation in
      let imp-r = implied_there n rs qs red-r red-q size-r size-q same_fit p in
      let imp-q = pick_implied n pq in
      let len-r = (pick_each (λ u. Sized n u.equation) p size-r).0 in
      let len-q = (pick_each (λ u. Sized n u.equation) pq size-q).0 in
      let own : has z.members q.dependent ≡ false = difference_has (members_of r) (members_of q) q.dependent ∙ ap₂ xor (ap (has (members_of r)) e ∙ high-r.0) high-q.0.0 in
      let rest_lack : Each (λ u. has z.members u.dependent ≡ false) others =
      each_zip (Disjoint q) (Partner rs) (λ u. has z.members u.dependent ≡ false) (λ u a t. other_lacks p q e high-q.0.0 u a t) others high-q.1 (pick_each (Partner rs) pq back).1 in
      let none = implied_cleared n qs z red-q size-q (difference_length n (members_of r) (members_of q) len-r len-q) (λ s k. satisfies_plus n s r.equation q.equation (imp-q s k) ∙ imp-r s k) in
      let stays = cleared_same qs z (pick_back (λ u. has z.members u.dependent ≡ false) pq own rest_lack) in
      let each_switch : (v : ℕ) → has (members_of r) v ≡ has (members_of q) v = λ v. xor_equal _ _ (sym (difference_has (members_of r) (members_of q) v) ∙ ap (λ (x : Equation). has x.members v) (sym stays) ∙ none v) in
      let sets = ext_get_or false (members_of r) (members_of q) (len-r ∙ sym len-q) (λ k _. each_switch (suc k)) in
      let w = witness n qs red-q (dependents_within n qs red-q size-q) in
      let sides = same_sides (odd_in n (members_of q) w.0) r.equation.odd q.equation.odd (ap (λ a. same r.equation.odd (odd_in n a w.0)) (sym sets) ∙ imp-r w.0 w.1) (imp-q w.0 w.1) in
      λ i. record { dependent = sym e i; equation = record { members = sets i; odd = sides i } }

  pub rows_there : Each (λ r. SomeOf (λ q. r ≡ q) qs) rs
  rows_there = each_zip (λ r. (rest : List Row) × Pick r rest rs) (Partner qs) (λ r. SomeOf (λ q. r ≡ q) qs) (λ r p t. pick_some (λ q. r ≡ q) (equal r p.0 p.1 t.0 t.1 t.2 t.3) t.3) rs (all_picked rs)
      (partners n rs qs red-r red-q size-r size-q same_fit)
