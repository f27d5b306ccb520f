-- Lemmas for the laws of rules that force: passes over rules.
use Rattle.std.specs.Prelude.{◌≡◌, ℕ, zero, suc, ◌+◌, ◌<◌, ◌≤◌, Bool, true, false, List, [], ◌∷◌, map, length, drop, Some, None, Option, Ok, Result, slice_index_or}
use Rattle.std.proofs.Common.{sym, ap, ◌∙◌, arith}
use Rattle.std.proofs.lemmas.List.{at_drop_more, at_drop_all, drop-map}
use Rattle.rules.specs.declared.literals.Literal.{Literal}
use Rattle.rules.specs.Constraints.{Constraint, Each}
use Rattle.search_theory.specs.Parts.{Part}
use Rattle.search_theory.proofs.Rules.{says_unset, says_alone}
use Rattle.search.specs.declared.looking.Dead.{Dead}
use Rattle.search.specs.Looks.{look_of, look_at, ForcesOne, pass_at, pass_from}

-- what a look tells
pub look_forces : (d : Bool) (o : Option Literal) (l : Literal) → Ok (Some l) ≡ look_of d o → o ≡ Some l
look_forces true o l e = absurd (cc)
look_forces false o l e = cc

-- the element at an index
pub each_at : {X Y : Type 0} (P : Y → Type 0) (f : X → Y) (xs : List X) (i : ℕ) (d : X) → i < length xs → Each P (map f xs) → P (f (slice_index_or xs i d))
each_at P f [] i d h e = absurd (omega arith)
each_at P f (x ∷ xs) zero d h e = e.0
each_at P f (x ∷ xs) (suc i) d h e = each_at P f xs i d (omega arith) e.1

-- a pass at an index
module _ {R : Type 0} (f : R → Constraint) (xs : List R) (i : ℕ) where
  left_more : (x : R) → i < length xs → x ≡ slice_index_or xs i x → drop i (map f xs) ≡ f x ∷ drop (i + 1) (map f xs)
  left_more x h read =
      drop-map f i xs ∙ at_drop_more (map f) xs i x h ∙ ap (λ y. f y ∷ map f (drop (i + 1) xs)) (sym read) ∙ ap (λ ys. f x ∷ ys) (sym (drop-map f (i + 1) xs))

  left_all : length xs ≤ i → drop i (map f xs) ≡ []
  left_all h = drop-map f i xs ∙ at_drop_all (map f) xs i h

  pub pass_more : (p : Part) (x : R) → i < length xs → x ≡ slice_index_or xs i x → (k : Result (Option Literal) Dead) → k ≡ look_at p (f x)
      → pass_at k i (pass_from p (i + 1) (drop (i + 1) (map f xs))) ≡ pass_from p i (drop i (map f xs))
  pass_more p x h read k e = ap (λ y. pass_at y i (pass_from p (i + 1) (drop (i + 1) (map f xs)))) e ∙ sym (ap (pass_from p i) (left_more x h read))

  pub pass_all : (p : Part) → length xs ≤ i → Ok None ≡ pass_from p i (drop i (map f xs))
  pass_all p h = sym (ap (pass_from p i) (left_all h))

-- what a rule forces was unset, and its other switches are set
pub forces_one : (r : Constraint) → ForcesOne r
forces_one r p l e = (says_unset p r l e, says_alone p r l e)
