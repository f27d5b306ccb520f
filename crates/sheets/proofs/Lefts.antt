-- What is left of a list from a place on.
use Rattle.std.proofs.Common.{◌≡◌, ℕ, zero, suc, ◌+◌, List, [], ◌∷◌, ◌++◌, drop, Some, None, sym, refl, ap, ◌∙◌, append_assoc}
use Rattle.std.specs.List.{slice_get}
use Rattle.std.proofs.lemmas.List.{append-nil, drop_more}
use Rattle.std.proofs.lemmas.Option.{slice_get_within, get_or_from_slice_get}

module _ {X : Type 0} where
  pub left_some : (xs : List X) (i : ℕ) (x : X) → Some x ≡ slice_get xs i → drop i xs ≡ x ∷ drop (i + 1) xs
  left_some xs i x is = drop_more xs i x (slice_get_within xs i x (sym is)) ∙ ap (λ y. y ∷ drop (i + 1) xs) (get_or_from_slice_get xs i x x (sym is))

  pub left_none : (xs : List X) (i : ℕ) → None ≡ slice_get xs i → drop i xs ≡ []
  left_none [] zero is = refl
  left_none [] (suc i) is = refl
  left_none (x ∷ xs) zero is = cc
  left_none (x ∷ xs) (suc i) is = left_none xs i is

  -- a list, of which some was taken and the rest is left: one more element is taken
  pub taken_more : (had has : List X) (x : X) (left less all : List X) → had ++ left ≡ all → has ≡ had ++ x ∷ [] → left ≡ x ∷ less → has ++ less ≡ all
  taken_more had has x left less all whole more step = ap (λ l. l ++ less) more ∙ append_assoc had (x ∷ []) less ∙ ap (λ l. had ++ l) (sym step) ∙ whole

  -- and nothing is left
  pub taken_all : (has left all : List X) → has ++ left ≡ all → left ≡ [] → has ≡ all
  taken_all has left all whole none = sym (append-nil has) ∙ ap (λ l. has ++ l) (sym none) ∙ whole
