-- Tables of tries.
use Rattle.std.proofs.Common.{◌≡◌, ℕ, zero, suc, ◌+◌, ◌<◌, ◌≤◌, true, false, ◌⊎◌, List, ◌∷◌, length, get_or, set, Some, None, inl, inr, refl, ap, ◌∙◌, subst, arith}
use Rattle.std.proofs.lemmas.Bool.{cases_lt}
use Rattle.rules.specs.Constraints.{positive}
use Rattle.search_theory.specs.Tries.{turn}
use Rattle.search_theory.proofs.Stacks.{turn_on, turn_off}
use Rattle.search.specs.declared.tries.Try.{Try}
use Rattle.search.specs.declared.tries.Tries.{Tries}
use Rattle.search.specs.Stacks.{no_try, literal_of, stack, stack_of, LatestOff, Tops}
use Rattle.search.proofs.Levels.{set_at}

pub stack_length : (ts : List Try) (k : ℕ) → length (stack ts k) ≡ k
stack_length ts zero = refl
stack_length ts (suc k) = ap suc (stack_length ts k)

-- the latest try at off, where the tries behind it are at on
latest_found : (ts : List Try) (i k : ℕ) → i < k → (get_or ts i no_try).on ≡ false → ((j : ℕ) → i < j → j < k → (get_or ts j no_try).on ≡ true) → turn (stack ts k) ≡ Some (positive (get_or ts i no_try).switch ∷ stack ts i)
latest_found ts i zero h off on = absurd (omega arith)
latest_found ts i (suc k) h off on = by (cases_lt i k) (latest_found ts i k)
  where
    by : (i < k) ⊎ (k ≤ i) → (i < k → (get_or ts i no_try).on ≡ false → ((j : ℕ) → i < j → j < k → (get_or ts j no_try).on ≡ true) → turn (stack ts k) ≡ Some (positive (get_or ts i no_try).switch ∷ stack ts i))
        → turn (stack ts (suc k)) ≡ Some (positive (get_or ts i no_try).switch ∷ stack ts i)
    by (inl l) ih = turn_on (literal_of (get_or ts k no_try)) (stack ts k) (on k l (omega arith)) ∙ ih l off (λ j g m. on j g (omega arith))
    by (inr l) ih =
        let same : i ≡ k = omega arith in
        subst (λ j. turn (stack ts (suc j)) ≡ Some (positive (get_or ts i no_try).switch ∷ stack ts i)) same (turn_off (literal_of (get_or ts i no_try)) (stack ts i) off)

latest_none : (ts : List Try) (k : ℕ) → ((j : ℕ) → j < k → (get_or ts j no_try).on ≡ true) → turn (stack ts k) ≡ None
latest_none ts zero on = refl
latest_none ts (suc k) on = turn_on (literal_of (get_or ts k no_try)) (stack ts k) (on k (omega arith)) ∙ latest_none ts k (λ j h. on j (omega arith))

pub turns : (t : Tries) (i : ℕ) → LatestOff (Some i) t → turn (stack_of t) ≡ Some (positive (get_or t.table i no_try).switch ∷ stack t.table i)
turns t i h = latest_found t.table i t.count h.0 h.1 h.2

pub turns_none : (t : Tries) → LatestOff None t → turn (stack_of t) ≡ None
turns_none t h = latest_none t.table t.count h

-- one entry of the table is changed, and is the latest
module _ (t : Tries) (k : ℕ) (x : Try) (h : k < length t.table) where
  below_same : (i : ℕ) → i ≤ k → stack (set t.table k x) i ≡ stack t.table i
  below_same zero l = refl
  below_same (suc i) l =
      let ih = below_same i (omega arith) in
      let e : get_or (set t.table k x) i no_try ≡ get_or t.table i no_try = (let s = set_at t.table k i x no_try h in grind arith) in
      ap (λ y. literal_of y ∷ stack (set t.table k x) i) e ∙ ap (λ ys. literal_of (get_or t.table i no_try) ∷ ys) ih

  pub tops : (u : Tries) → u.table ≡ set t.table k x → u.count ≡ k + 1 → Tops (literal_of x) k t u
  tops u table_is count_is =
      record {
        count = count_is;
        same = λ i l. ap (λ ts. stack ts i) table_is ∙ below_same i l;
        latest =
            (let g : get_or (set t.table k x) k no_try ≡ x = (let s = set_at t.table k k x no_try h in grind arith) in
            let count_suc : u.count ≡ suc k = omega arith in
            ap (stack u.table) count_suc ∙ ap (λ ts. stack ts (suc k)) table_is ∙ ap (λ y. literal_of y ∷ stack (set t.table k x) k) g ∙ ap (λ ys. literal_of x ∷ ys) (below_same k (omega arith)));
      }
