-- One turn of a loop, over plain values.
use Rattle.std.proofs.Common.{◌≡◌, ℕ, ◌+◌, ◌<◌, List, [], ◌∷◌, ◌++◌, map, length, get_or, take, drop, set, ◌≤◌, sym, ap, ◌∙◌, ap₂, add-zero, arith}
use Rattle.std.proofs.lemmas.List.{map_push, map_more, take_more_set, drop-set-lt, drop-drop, get_or-drop, length_push, length-take-le, take-take, get_or-take}
use Rattle.std.proofs.Math.Seq.{take-append_seam, get_or-append_seam}

module _ {X Y : Type 0} (f : X → Y) (g : Y → Y) (xs ys : List X) (i : ℕ) (x new : X) (here : i < length ys) (size : length ys ≡ length xs) where
  -- a list of which the elements before i are changed, and the one at i is changed now
  pub changed_more : map f (take i ys) ≡ map g (map f (take i xs)) → drop i ys ≡ drop i xs → x ≡ get_or ys i x → f new ≡ g (f x) → map f (take (i + 1) (set ys i new)) ≡ map g (map f (take (i + 1) xs))
  changed_more before after is by =
      let old : get_or ys i x ≡ get_or xs i x = ap (λ k. get_or ys k x) (sym (add-zero i)) ∙ sym (get_or-drop i ys 0 x) ∙ ap (λ l. get_or l 0 x) after ∙ get_or-drop i xs 0 x ∙ ap (λ k. get_or xs k x) (add-zero i) in
      let last : f new ≡ g (f (get_or xs i x)) = by ∙ ap (λ y. g (f y)) (is ∙ old) in
      ap (map f) (take_more_set ys i new here)
      ∙ map_push f (take i ys) new
      ∙ ap₂ (λ l y. l ++ (y ∷ [])) before last
      ∙ sym (ap (map g) (map_more f xs i x (omega arith)) ∙ map_push g (map f (take i xs)) (f (get_or xs i x)))

  pub unchanged_more : drop i ys ≡ drop i xs → drop (i + 1) (set ys i new) ≡ drop (i + 1) xs
  unchanged_more after = drop-set-lt (i + 1) ys i new (omega arith) ∙ sym (drop-drop 1 i ys) ∙ ap (drop 1) after ∙ drop-drop 1 i xs

-- ---- from the last element to the first

-- the elements before x, where x is the last of the first n
pub record Last {X : Type 0} (xs before : List X) (n : ℕ) (x : X) : Type 0 where
  pub next : n ≡ length before + 1
  pub here : length before < length xs
  pub front : before ≡ take (length before) xs
  pub is : x ≡ get_or xs (length before) x

pub last_of : {X : Type 0} (xs whole before : List X) (n : ℕ) (x : X) → whole ≡ before ++ (x ∷ []) → whole ≡ take n xs → n ≤ length xs → Last xs before n x
last_of xs whole before n x e f l =
    let size : length (before ++ (x ∷ [])) ≡ length before + 1 = length_push before x in
    let long : length (take n xs) ≡ n = length-take-le n xs l in
    let next : n ≡ length before + 1 = omega (arith, ap length (sym e ∙ f)) in
    let m = length before in
    let parts : before ++ (x ∷ []) ≡ take (m + 1) xs = sym e ∙ f ∙ ap (λ k. take k xs) next in
    record {
      next = next;
      here = omega arith;
      front = sym (take-append_seam before (x ∷ [])) ∙ ap (take m) parts ∙ take-take m (m + 1) xs (omega arith);
      is = sym (get_or-append_seam before x [] x) ∙ ap (λ l. get_or l m x) parts ∙ get_or-take (m + 1) xs m x (omega arith);
    }
