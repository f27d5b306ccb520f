-- The parity of the number of switches that are on.
use Rattle.std.proofs.Common.{◌≡◌, ℕ, ◌+◌, ◌%◌, Bool, true, false, List, [], ◌∷◌, refl, arith}
use Rattle.rules.specs.Settings.{Setting}
use Rattle.rules.specs.Constraints.{xor, odd_on}
use Rattle.rules.specs.Rows.{bit}
use Rattle.parity_theory.specs.Counting.{number_on}
use Rattle.parity_theory.specs.Claims.{OddOnCounts}

rest_is : (s : Setting) (vs : List ℕ) → number_on s vs % 2 ≡ bit (odd_on s vs)
rest_is s [] = refl
rest_is s (v ∷ vs) = go (s v) (odd_on s vs) (rest_is s vs)
  where
    go : (b p : Bool) → number_on s vs % 2 ≡ bit p → (bit b + number_on s vs) % 2 ≡ bit (xor b p)
    go true true e = omega arith
    go true false e = omega arith
    go false true e = omega arith
    go false false e = omega arith

pub odd_on_counts : OddOnCounts
odd_on_counts s vs = go (odd_on s vs) (rest_is s vs)
  where
    go : (p : Bool) → number_on s vs % 2 ≡ bit p → ((p ≡ true → number_on s vs % 2 ≡ 1) × (number_on s vs % 2 ≡ 1 → p ≡ true))
    go true e = (λ _. e, λ _. refl)
    go false e = (λ h. let z : ◌≡◌ {A = ℕ} 0 1 = cc in absurd (omega arith), λ h. absurd (omega arith))
