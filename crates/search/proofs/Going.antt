-- Forcing by passes, in whatever order.
use Rattle.std.proofs.Common.{◌≡◌, ℕ, zero, suc, ◌+◌, ◌<◌, ◌≤◌, Bool, true, false, ltb, List, [], ◌∷◌, ◌++◌, drop, Some, None, Option, Ok, Err, Result, sym, refl, ap, ◌∙◌, subst, inl, inr, arith}
use Rattle.std.specs.Result.{IsErr}
use Rattle.rules.specs.declared.literals.Literal.{Literal}
use Rattle.rules.specs.Settings.{Within}
use Rattle.rules.specs.Constraints.{Constraint, SomeOf}
use Rattle.rules.specs.Rows.{bit}
use Rattle.search_theory.specs.Parts.{Part, put, unset}
use Rattle.search_theory.specs.Forcing.{says, dead, any_dead, Still, Lies, Forces, Over}
use Rattle.search_theory.proofs.Forcing.{lies_none, lies_trans, lies_forces, forces_own}
use Rattle.search_theory.proofs.Switches.{unset_le, unset_put}
use Rattle.search_theory.proofs.Systems.{lies_front, lies_back, any_dead_front, any_dead_back, still_both}
use Rattle.search.specs.declared.values.PartSetting.{PartSetting}
use Rattle.search.specs.declared.looking.Dead.{Dead}
use Rattle.search.specs.declared.looking.Forced.{Forced}
use Rattle.search.specs.Values.{part_of, upto, Puts}
use Rattle.search.specs.Looks.{look_of, pass_at, pass_from, UnsetBy}
use Rattle.search.specs.Moves.{Moves, left_over}

-- what a pass tells of the rules from an index on
module _ (p : Part) where
  pass_still : (i : ℕ) (rs : List Constraint) → Ok None ≡ pass_from p i rs → Still rs p
  pass_still i [] e = record { live = refl; quiet = refl }
  pass_still i (r ∷ rs) e = by (pass_still (i + 1) rs) (dead p r) refl (says p r) refl e
    where
      by : (Ok None ≡ pass_from p (i + 1) rs → Still rs p) → (d : Bool) → dead p r ≡ d → (o : Option Literal) → says p r ≡ o → Ok None ≡ pass_at (look_of d o) i (pass_from p (i + 1) rs) → Still (r ∷ rs) p
      by ih true f o g h = absurd (cc)
      by ih false f None g h =
          let s = ih h in
          let live = s.live in
          let quiet = s.quiet in
          record { live = grind arith; quiet = grind arith }
      by ih false f (Some l) g h = absurd (cc)

  pass_dies : (k : Dead) (i : ℕ) (rs : List Constraint) → Err k ≡ pass_from p i rs → any_dead p rs ≡ true
  pass_dies k i [] e = absurd (cc)
  pass_dies k i (r ∷ rs) e = by (pass_dies k (i + 1) rs) (dead p r) refl (says p r) refl e
    where
      by : (Err k ≡ pass_from p (i + 1) rs → any_dead p rs ≡ true) → (d : Bool) → dead p r ≡ d → (o : Option Literal) → says p r ≡ o → Err k ≡ pass_at (look_of d o) i (pass_from p (i + 1) rs) → any_dead p (r ∷ rs) ≡ true
      by ih true f o g h = grind arith
      by ih false f None g h = let s = ih h in grind arith
      by ih false f (Some l) g h = absurd (cc)

  pass_says : (i : ℕ) (rs : List Constraint) (x : Forced) → Ok (Some x) ≡ pass_from p i rs → Forces rs p x.literal
  pass_says i [] x e = absurd (cc)
  pass_says i (r ∷ rs) x e = by (pass_says (i + 1) rs x) (dead p r) refl (says p r) refl e
    where
      by : (Ok (Some x) ≡ pass_from p (i + 1) rs → Forces rs p x.literal) → (d : Bool) → dead p r ≡ d → (o : Option Literal) → says p r ≡ o → Ok (Some x) ≡ pass_at (look_of d o) i (pass_from p (i + 1) rs) → Forces (r ∷ rs) p x.literal
      by ih true f o g h = absurd (cc)
      by ih false f None g h = inr (ih h)
      by ih false f (Some l) g h =
          let same : x ≡ record { at = i; literal = l } = cc in
          inl (g ∙ ap Some (sym (ap (λ y. y.literal) same)))

  dead_drop : (i : ℕ) (rs : List Constraint) → any_dead p (drop i rs) ≡ true → any_dead p rs ≡ true
  dead_drop zero rs h = h
  dead_drop (suc i) [] h = h
  dead_drop (suc i) (r ∷ rs) h = let ih = dead_drop i rs h in grind arith

some_drop : {X : Type 0} (P : X → Type 0) (i : ℕ) (xs : List X) → SomeOf P (drop i xs) → SomeOf P xs
some_drop P zero xs h = h
some_drop P (suc i) [] h = h
some_drop P (suc i) (x ∷ xs) h = inr (some_drop P i xs h)

bit_most : (b : Bool) → bit b ≤ 1
bit_most true = omega arith
bit_most false = omega arith

-- a refusal by a dead rule is passed on as it is
pub passed_on : {X : Type 0} (r : Result X Dead) → IsErr r → Err (record {}) ≡ r
passed_on (Ok x) h = absurd (cc)
passed_on (Err d) h = refl

-- moves join
module _ (rs : List Constraint) where
  pub moves_then : (s t u : PartSetting) → Moves rs s t → Moves rs t u → Moves rs s u
  moves_then s t u a b =
      record {
        lies = lies_trans rs (part_of s) (part_of t) (part_of u) a.lies b.lies;
        level = b.level ∙ a.level;
        below = λ i h. b.below i (subst (λ k. i < k) (sym a.level) h) ∙ a.below i h;
        top = λ e. subst (λ k. upto u k ≡ part_of u) a.level (b.top (subst (λ k. upto t k ≡ part_of t) (sym a.level) (a.top e)));
      }

  pub moves_less : (n : ℕ) (s t : PartSetting) (from : ℕ) → Moves rs s t → left_over n t from ≤ left_over n s from
  unfolding left_over
  moves_less n s t from m = let less = unset_le n (part_of s) (part_of t) m.lies.above in omega arith

-- the next forced switch of a pass
module _ (rs : List Constraint) (from : ℕ) (s : PartSetting) where
  pub next_dead : (d : Dead) → Err d ≡ pass_from (part_of s) from (drop from rs) → any_dead (part_of s) rs ≡ true
  next_dead d e = dead_drop (part_of s) from rs (pass_dies (part_of s) d from (drop from rs) e)

  pub next_quiet : (o : Option Forced) → o ≡ None → from ≡ 0 → Ok o ≡ pass_from (part_of s) from (drop from rs) → Still rs (part_of s)
  next_quiet o is z found =
      let e : Ok None ≡ pass_from (part_of s) from (drop from rs) = subst (λ x. Ok x ≡ pass_from (part_of s) from (drop from rs)) is found in
      subst (λ i. Still (drop i rs) (part_of s)) z (pass_still (part_of s) from (drop from rs) e)

  pub next_again : (n : ℕ) → (from ≡ 0 → ⊥) → left_over n s 0 < left_over n s from
  unfolding left_over
  next_again n h =
      let none : bit (ltb 0 0) ≡ 0 = refl in
      let one : bit (ltb 0 from) ≡ 1 = grind arith in
      omega arith

  module _ (x : Forced) (o : Option Forced) (is : o ≡ Some x) (found : Ok o ≡ pass_from (part_of s) from (drop from rs)) where
    e : Ok (Some x) ≡ pass_from (part_of s) from (drop from rs)
    e = subst (λ y. Ok y ≡ pass_from (part_of s) from (drop from rs)) is found

    next_forces : Forces rs (part_of s) x.literal
    next_forces = some_drop (λ r. says (part_of s) r ≡ Some x.literal) from rs (pass_says (part_of s) from (drop from rs) x e)

    pub next_within : (n : ℕ) → Over n rs → Within n x.literal.switch
    next_within n over = forces_own (Within n) (part_of s) rs over x.literal next_forces

    module _ (t : PartSetting) (puts : Puts x.literal s t) (by : UnsetBy (Ok o) (part_of s)) where
      u : part_of s x.literal.switch ≡ None
      u = subst (λ y. UnsetBy (Ok y) (part_of s)) is by

      pub next_moves : Moves rs s t
      next_moves =
          record {
            lies = subst (λ q. Lies rs (part_of s) q) (sym puts.part) (lies_forces rs (part_of s) (part_of s) x.literal (lies_none rs (part_of s)) next_forces);
            level = puts.level;
            below = λ i h. puts.below i h u;
            top = puts.top;
          }

      pub next_less : (n : ℕ) → Over n rs → (i : ℕ) → left_over n t i < left_over n s from
      unfolding left_over
      next_less n over i =
          let less = unset_put n (part_of s) x.literal u (next_within n over) in
          let same : unset n (part_of t) ≡ unset n (put (part_of s) x.literal) = ap (unset n) puts.part in
          let small = bit_most (ltb 0 i) in
          omega arith

-- forcing by the second part of the rules, and then by the first
module _ (rs ss rs' ss' : List Constraint) (re : rs' ≡ rs) (se : ss' ≡ ss) (s t u : PartSetting) (m : Moves (rs ++ ss) s t) (a : Moves ss' t u) where
  pub back_moves : Moves (rs ++ ss) s u
  back_moves =
      moves_then (rs ++ ss) s t u m
      (record { lies = lies_back rs ss (part_of t) (part_of u) (subst (λ x. Lies x (part_of t) (part_of u)) se a.lies); level = a.level; below = a.below; top = a.top })

  pub back_dead : any_dead (part_of u) ss' ≡ true → any_dead (part_of u) (rs ++ ss) ≡ true
  back_dead d = any_dead_back (part_of u) rs ss (subst (λ x. any_dead (part_of u) x ≡ true) se d)

  module _ (w : PartSetting) (b : Moves rs' u w) where
    pub front_moves : Moves (rs ++ ss) s w
    front_moves =
        moves_then (rs ++ ss) s u w back_moves
        (record { lies = lies_front rs ss (part_of u) (part_of w) (subst (λ x. Lies x (part_of u) (part_of w)) re b.lies); level = b.level; below = b.below; top = b.top })

    pub front_dead : any_dead (part_of w) rs' ≡ true → any_dead (part_of w) (rs ++ ss) ≡ true
    front_dead d = any_dead_front (part_of w) rs ss (subst (λ x. any_dead (part_of w) x ≡ true) re d)

    pub both_still : Still ss' (part_of u) → Still rs' (part_of w) → w ≡ u → Still (rs ++ ss) (part_of w)
    both_still y x same =
        still_both (part_of w) rs ss (subst (λ z. Still z (part_of w)) re x)
        (subst (λ z. Still z (part_of w)) se (subst (λ v. Still ss' (part_of v)) (sym same) y))

    pub both_less : (n i j : ℕ) → left_over n w j < left_over n u i → left_over n w j < left_over n t i
    both_less n i j h = let le = moves_less ss' n t u i a in omega arith
