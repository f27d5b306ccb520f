-- Values and levels of switches: one more set, going back, and the lowest that is unset.
use Rattle.std.proofs.Common.{◌≡◌, ℕ, zero, suc, ◌+◌, ◌-◌, ◌<◌, ◌≤◌, Bool, true, false, cond, eqb, ltb, not, List, [], ◌∷◌, length, get_or, set, take, is_some, Some, None, sym, refl, ap, ◌∙◌, subst, arith}
use mathlib.Core.Path.{fun_ext}
use native.Mathlib.Decide.{ℕ_discrete}
use lib.Dec.{eqb-suc-suc}
use Rattle.std.specs.Option.{option_map}
use Rattle.std.specs.List.{position, position_from}
use Rattle.std.proofs.lemmas.Iterator.Adapters.{position_from-zero}
use Rattle.std.proofs.lemmas.List.{get_or-take, length-take-le, same_lists, get_or_default}
use Rattle.rules.specs.declared.literals.Literal.{Literal}
use Rattle.rules.specs.Settings.{Within}
use Rattle.search_theory.specs.Parts.{put}
use Rattle.search_theory.specs.Tries.{lowest}
use Rattle.search_theory.proofs.Switches.{lowest_more, lowest_first}
use Rattle.search.specs.declared.values.Value.{Value}
use Rattle.search.specs.declared.values.Value.TheVariants.{Unset}
use Rattle.search.specs.declared.values.PartSetting.{PartSetting}
use Rattle.search.specs.Values.{view, value_of, kept_to, kept_values, part_of, upto, back, Puts}

pub set_at : {X : Type 0} (xs : List X) (v w : ℕ) (x d : X) → v < length xs → get_or (set xs v x) w d ≡ cond (eqb v w) x (get_or xs w d)
set_at [] v w x d h = absurd (omega arith)
set_at (y ∷ xs) zero zero x d h = refl
set_at (y ∷ xs) zero (suc w) x d h = grind arith
set_at (y ∷ xs) (suc v) zero x d h = grind arith
set_at (y ∷ xs) (suc v) (suc w) x d h = let ih = set_at xs v w x d (omega arith) in rw eqb-suc-suc ih

-- a switch and its index
index_is : (v w : ℕ) → 1 ≤ v → eqb v (suc w) ≡ eqb (v - 1) w
index_is zero w h = absurd (omega arith)
index_is (suc v) w h = let e : v ≡ suc v - 1 = omega arith in rw eqb-suc-suc (ap (λ x. eqb x w) e)

-- one more switch set
module _ (s : PartSetting) (l : Literal) (x : Value) (x-is : x ≡ value_of l.on) (values-long : length s.values ≡ 256) (levels-long : length s.levels ≡ 256) (within : Within 256 l.switch) where
  abbrev after_put : PartSetting
  after_put = record { values = set s.values (l.switch - 1) x; levels = set s.levels (l.switch - 1) s.level; level = s.level }

  new_value : (v : ℕ) → get_or after_put.values v Unset ≡ cond (eqb l.switch (suc v)) (value_of l.on) (get_or s.values v Unset)
  new_value v =
      set_at s.values (l.switch - 1) v x Unset (omega arith)
      ∙ ap (λ b. cond b x (get_or s.values v Unset)) (sym (index_is l.switch v within.0))
      ∙ ap (λ y. cond (eqb l.switch (suc v)) y (get_or s.values v Unset)) x-is

  new_level : (v : ℕ) → get_or after_put.levels v 0 ≡ cond (eqb l.switch (suc v)) s.level (get_or s.levels v 0)
  new_level v =
      set_at s.levels (l.switch - 1) v s.level 0 (omega arith)
      ∙ ap (λ b. cond b s.level (get_or s.levels v 0)) (sym (index_is l.switch v within.0))

  -- one more switch is set
  part_put : part_of after_put ≡ put (part_of s) l
  part_put = fun_ext by
    where
      by : (v : ℕ) → part_of after_put v ≡ put (part_of s) l v
      by zero = grind arith
      by (suc v) =
          let a = new_value v in
          grind arith

  -- where it was unset, nothing below its level changes
  upto_put : (i : ℕ) → i < s.level → part_of s l.switch ≡ None → upto after_put i ≡ upto s i
  upto_put i h u = fun_ext by
    where
      by : (v : ℕ) → upto after_put i v ≡ upto s i v
      by zero = refl
      by (suc v) =
          let a = new_value v in
          let b = new_level v in
          let c : l.switch ≡ suc v → part_of s (suc v) ≡ None = λ e. subst (λ x. part_of s x ≡ None) e u in
          let d = ℕ_discrete l.switch (suc v) in
          grind arith

  -- where nothing was set above the level, nothing is
  top_put : upto s s.level ≡ part_of s → upto after_put s.level ≡ part_of after_put
  top_put e = fun_ext by
    where
      by : (v : ℕ) → upto after_put s.level v ≡ part_of after_put v
      by zero = refl
      by (suc v) =
          let a = new_value v in
          let b = new_level v in
          let c : upto s s.level (suc v) ≡ part_of s (suc v) = ap (λ f. f (suc v)) e in
          grind arith

  pub puts : Puts l s after_put
  puts = record { part = part_put; level = refl; below = upto_put; top = top_put }

-- what is kept, value by value
kept_unset : (b : Bool) → cond b Unset Unset ≡ Unset
kept_unset true = refl
kept_unset false = refl

kept_at : (limit : ℕ) (ls : List ℕ) (vs : List Value) (k : ℕ) → get_or (kept_values limit ls vs) k Unset ≡ kept_to limit (get_or ls k 0) (get_or vs k Unset)
kept_at limit (l ∷ ls) (v ∷ vs) zero = refl
kept_at limit (l ∷ ls) (v ∷ vs) (suc k) = kept_at limit ls vs k
kept_at limit [] vs k = let e : ltb limit 0 ≡ false = grind arith in ap (λ b. cond b Unset (get_or vs k Unset)) (sym e)
kept_at limit (l ∷ ls) [] k = sym (kept_unset (ltb limit (get_or (l ∷ ls) k 0)))

kept_length : (limit : ℕ) (ls : List ℕ) (vs : List Value) → length (kept_values limit ls vs) ≡ length vs
kept_length limit (l ∷ ls) (v ∷ vs) = ap suc (kept_length limit ls vs)
kept_length limit [] vs = refl
kept_length limit (l ∷ ls) [] = refl

-- the values ws are those of vs, the first i of them as after going back to a limit
pub record Back (vs : List Value) (levels : List ℕ) (limit : ℕ) (ws : List Value) (i : ℕ) : Type 0 where
  pub long : length ws ≡ 256
  pub done : (k : ℕ) → k < i → get_or ws k Unset ≡ kept_to limit (get_or levels k 0) (get_or vs k Unset)
  pub left : (k : ℕ) → i ≤ k → get_or ws k Unset ≡ get_or vs k Unset

pub back_none : (vs : List Value) (levels : List ℕ) (limit : ℕ) → length vs ≡ 256 → Back vs levels limit vs 0
back_none vs levels limit h = record { long = h; done = λ v l. absurd (omega arith); left = λ v l. refl }

pub back_all : (vs : List Value) (levels : List ℕ) (limit : ℕ) (ws : List Value) (i : ℕ) → length vs ≡ 256 → 256 ≤ i → Back vs levels limit ws i → ws ≡ kept_values limit levels vs
back_all vs levels limit ws i long all b =
    let size : length ws ≡ length (kept_values limit levels vs) = b.long ∙ sym long ∙ sym (kept_length limit levels vs) in
    same_lists ws (kept_values limit levels vs) size (λ k d h. at k d h (omega arith))
  where
    at : (k : ℕ) (d : Value) → k < length ws → k < length (kept_values limit levels vs) → get_or ws k d ≡ get_or (kept_values limit levels vs) k d
    at k d h g =
        let in_i : k < i = (let l = b.long in omega arith) in
        get_or_default ws k d Unset h ∙ b.done k in_i ∙ sym (kept_at limit levels vs k) ∙ get_or_default (kept_values limit levels vs) k Unset d g

pub part_back : (s : PartSetting) (limit : ℕ) → part_of (back limit s) ≡ upto s limit
part_back s limit = fun_ext by
  where
    by : (v : ℕ) → part_of (back limit s) v ≡ upto s limit v
    by zero = refl
    by (suc v) = ap view (kept_at limit s.levels s.values v)

-- after going back to a limit, the levels up to it are what they were
kept_twice : (i k l : ℕ) → i ≤ k → (v : Value) → kept_to i l (kept_to k l v) ≡ kept_to i l v
kept_twice i k l h v = grind arith

pub upto_back : (s : PartSetting) (limit i : ℕ) → i ≤ limit → upto (back limit s) i ≡ upto s i
upto_back s limit i h = fun_ext by
  where
    by : (v : ℕ) → upto (back limit s) i v ≡ upto s i v
    by zero = refl
    by (suc v) = ap (λ x. view (kept_to i (get_or s.levels v 0) x)) (kept_at limit s.levels s.values v) ∙ ap view (kept_twice i limit (get_or s.levels v 0) h (get_or s.values v Unset))

-- what is set up to a level is set up to a higher one
kept_more : (i j l : ℕ) → i ≤ j → (v : Value) → view (kept_to i l v) ≡ view v → view (kept_to j l v) ≡ view v
kept_more i j l h v e = grind arith

pub upto_more : (s : PartSetting) (i j : ℕ) → i ≤ j → upto s i ≡ part_of s → upto s j ≡ part_of s
upto_more s i j h e = fun_ext by
  where
    by : (v : ℕ) → upto s j v ≡ part_of s v
    by zero = refl
    by (suc v) = kept_more i j (get_or s.levels v 0) h (get_or s.values v Unset) (ap (λ f. f (suc v)) e)

-- the lowest switch that is unset, by the index of its value
abbrev pub is_unset : Value → Bool
is_unset v = not (is_some (view v))

module _ (s : PartSetting) (n : ℕ) where
  abbrev passes : ℕ → Bool
  passes v = not (is_some (part_of s v))

  lowest_from : (i : ℕ) (vs : List Value) → n ≡ i + length vs → ((k : ℕ) → k < length vs → passes (i + k + 1) ≡ is_unset (get_or vs k Unset)) → lowest passes i ≡ None
      → lowest passes n ≡ option_map (λ k. k + 1) (position_from is_unset i vs)
  lowest_from i [] size read none = let e : i ≡ n = omega arith in subst (λ m. lowest passes m ≡ None) e none
  lowest_from i (o ∷ vs) size read none = by (lowest_from (i + 1) vs (omega arith) rest) (is_unset o) refl
    where
      here : passes (i + 1) ≡ is_unset o
      here = let e : i + 0 + 1 ≡ i + 1 = omega arith in subst (λ m. passes m ≡ is_unset o) e (read 0 (omega arith))

      rest : (k : ℕ) → k < length vs → passes (i + 1 + k + 1) ≡ is_unset (get_or vs k Unset)
      rest k h = let e : i + suc k + 1 ≡ i + 1 + k + 1 = omega arith in subst (λ m. passes m ≡ is_unset (get_or vs k Unset)) e (read (suc k) (omega arith))

      by : (lowest passes (i + 1) ≡ None → lowest passes n ≡ option_map (λ k. k + 1) (position_from is_unset (i + 1) vs)) → (b : Bool) → is_unset o ≡ b
          → lowest passes n ≡ option_map (λ k. k + 1) (cond b (Some i) (position_from is_unset (i + 1) vs))
      by ih true e = lowest_first passes i (i + 1) n refl (omega arith) none (here ∙ e)
      by ih false e = ih (lowest_more passes i (i + 1) refl none (here ∙ e))

  pub lowest_position : n ≤ length s.values → option_map (λ k. k + 1) (position is_unset (take n s.values)) ≡ lowest passes n
  lowest_position few =
      let long = length-take-le n s.values few in
      sym (lowest_from 0 (take n s.values) (omega arith) (λ k h. let e : 0 + k + 1 ≡ suc k = omega arith in ap passes e ∙ ap is_unset (sym (get_or-take n s.values k Unset (omega arith)))) refl
      ∙ ap (option_map (λ k. k + 1)) (sym (position_from-zero is_unset (take n s.values))))
