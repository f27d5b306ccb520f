-- How many settings of n switches have a property.
use Rattle.std.specs.Prelude.{◌≡◌, ℕ, ◌+◌, Bool, ◌↔◌, List, [], ◌∷◌, length}
use Rattle.rules.specs.Settings.{Setting, Earlier, setting}
use Rattle.rules.specs.Constraints.{Each, SomeOf}
use Rattle.rules.specs.Rows.{bit}

-- each setting is earlier than those after it
abbrev pub Rising : ℕ → List (List Bool) → Type 0
Rising n [] = Unit {0}
Rising n (s ∷ ss) = Each (λ t. Earlier n (setting s) (setting t)) ss × Rising n ss

-- exactly k settings of n switches have P: a list has just these, each once, the earlier before the later
pub record Exactly (n k : ℕ) (P : Setting → Type 0) : Type 0 where
  pub those : List (List Bool)
  pub just : (s : List Bool) → SomeOf (λ t. t ≡ s) those ↔ ((length s ≡ n) × P (setting s))
  pub rising : Rising n those
  pub size : length those ≡ k

-- how many of vs are on
abbrev pub number_on : Setting → List ℕ → ℕ
number_on s [] = 0
number_on s (v ∷ vs) = bit (s v) + number_on s vs
