-- The steps of a search for the first finding.
use Rattle.std.proofs.Common.{◌≡◌, ℕ, zero, suc, ◌+◌, ◌<◌, ◌≤◌, Bool, false, ◌||◌, List, [], ◌∷◌, ◌++◌, length, take, get_or, sym, Some, None, Option, refl, ap, ◌∙◌, subst, ⊎_elim, add-one, arith}
use Rattle.std.specs.Option.{option_or}
use Rattle.std.proofs.lemmas.Bool.{cases_lt}
use Rattle.std.specs.List.{list_any}
use Rattle.std.proofs.Math.Bool.{or-false}
use Rattle.std.proofs.lemmas.List.{take_more}
use Rattle.std.proofs.lemmas.List.Folds.{list_any-append}
use Rattle.rules.specs.First.{first_of, some_below}

-- one of the first i elements passes
pub some_below-take : {X : Type 0} (p : X → Bool) (xs : List X) (d : X) (i : ℕ) → i ≤ length xs → list_any p (take i xs) ≡ some_below (λ j. p (get_or xs j d)) i
unfolding some_below
some_below-take p xs d zero h = refl
some_below-take p xs d (suc k) h =
    let more : take (suc k) xs ≡ take k xs ++ get_or xs k d ∷ [] = ap (λ m. take m xs) (sym (add-one k)) ∙ take_more xs k d (omega arith) in
    ap (list_any p) more
    ∙ list_any-append p (take k xs) _
    ∙ ap (λ b. b || (p (get_or xs k d) || false)) (some_below-take p xs d k (omega arith))
    ∙ ap (λ b. some_below (λ j. p (get_or xs j d)) k || b) (or-false _)

pub first_none : {X : Type 0} (f : ℕ → Option X) → first_of f 0 ≡ None
unfolding first_of
first_none f = refl

pub first_more : {X : Type 0} (f : ℕ → Option X) (k : ℕ) → first_of f k ≡ None → f k ≡ None → first_of f (k + 1) ≡ None
unfolding first_of
first_more f k before here = rw (add-one, before) here

pub first_found : {X : Type 0} (f : ℕ → Option X) (j k : ℕ) (x : X) → first_of f j ≡ None → f j ≡ Some x → j < k → first_of f k ≡ Some x
unfolding first_of
first_found f j zero x before here lt = absurd (omega arith)
first_found f j (suc k) x before here lt =
    let more = first_found f j k x before here in
    ⊎_elim
    (λ h. ap (λ o. option_or o (f k)) (more h))
    (λ h. let e : j ≡ k = omega arith in subst (λ i. option_or (first_of f i) (f i) ≡ Some x) e (ap (λ o. option_or o (f j)) before ∙ here))
    (cases_lt j k)
