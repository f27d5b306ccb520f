-- Sets of switches, index by index.
use Rattle.std.proofs.Common.{◌≡◌, ℕ, zero, suc, ◌<◌, ◌≤◌, ◌⊎◌, inl, inr, length, Bool, true, false, List, [], ◌∷◌, get_or, Some, None, MatchOption, Option, sym, refl, ap, ap₂, true≢false, arith}
use Rattle.std.proofs.lemmas.List.{get_or_past}
use Rattle.std.proofs.lemmas.Bool.{cases_lt}
use Rattle.parity_theory.specs.Reducing.{shifted, highest}
use Rattle.parity.specs.Views.{switch_at}

-- the highest switch of a set that has none
pub highest_absent : (set : List Bool) → ((k : ℕ) → get_or set k false ≡ false) → None ≡ highest set
highest_absent [] h = refl
highest_absent (b ∷ set) h = ap₂ shifted (sym (h 0)) (highest_absent set (λ k. h (suc k)))

-- the highest switch of a set that has index i and nothing above it
pub highest_at : (set : List Bool) (i : ℕ) → get_or set i false ≡ true → ((k : ℕ) → i < k → get_or set k false ≡ false) → Some (suc i) ≡ highest set
highest_at [] i h none = absurd (true≢false (sym h))
highest_at (b ∷ set) zero h none = ap₂ shifted (sym h) (highest_absent set (λ k. none (suc k) (omega arith)))
highest_at (b ∷ set) (suc i) h none = ap (shifted b) (highest_at set i h (λ k l. none (suc k) (omega arith)))

-- the highest switch, by a search from the last index down
pub highest_found : (set : List Bool) (r : Option ℕ) → length set ≡ 256 → MatchOption r ((k : ℕ) → k < 256 → get_or set k false ≡ false) (λ i. (get_or set i false ≡ true) × ((k : ℕ) → i < k → k < 256 → get_or set k false ≡ false)) → switch_at r ≡ highest set
highest_found set None size h = highest_absent set (λ k. past k (cases_lt k 256))
  where
    past : (k : ℕ) → (k < 256) ⊎ (256 ≤ k) → get_or set k false ≡ false
    past k (inl l) = h k l
    past k (inr l) = get_or_past set k false (omega arith)
highest_found set (Some i) size h = highest_at set i h.0 (λ k l. past k l (cases_lt k 256))
  where
    past : (k : ℕ) → i < k → (k < 256) ⊎ (256 ≤ k) → get_or set k false ≡ false
    past k l (inl m) = h.1 k l m
    past k l (inr m) = get_or_past set k false (omega arith)
