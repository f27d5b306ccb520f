-- Settings of numbered switches, and which of two is the earlier.
use Rattle.std.specs.Prelude.{◌≡◌, ℕ, zero, suc, ◌<◌, ◌≤◌, Bool, true, false, List, slice_index_or}

-- off (false) or on (true) for each switch
abbrev pub Setting : Type 0
Setting = ℕ → Bool

-- v is one of n switches, which are numbered from 1
abbrev pub Within : ℕ → ℕ → Type 0
Within n v = (1 ≤ v) × (v ≤ n)

-- s is earlier than t: at the lowest of the n switches where they differ, s has off
pub record Earlier (n : ℕ) (s t : Setting) : Type 0 where
  pub at : ℕ
  pub within : Within n at
  pub same : (v : ℕ) → 1 ≤ v → v < at → s v ≡ t v
  pub off : s at ≡ false
  pub on : t at ≡ true

-- the setting that a list of values is, switch 1 first; past its end all is off
abbrev pub setting : List Bool → Setting
setting vs zero = false
setting vs (suc v) = slice_index_or vs v false
