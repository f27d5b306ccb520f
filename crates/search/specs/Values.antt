-- Part-settings as the code holds them.
use Rattle.std.specs.Prelude.{◌≡◌, ℕ, zero, suc, ◌<◌, Bool, true, false, cond, List, [], ◌∷◌, Some, None, Option, nat_lt, slice_index, slice_index_or}
use Rattle.rules.specs.declared.literals.Literal.{Literal}
use Rattle.search_theory.specs.Parts.{Part, put}
use Rattle.search.specs.declared.values.Value.{Value}
use Rattle.search.specs.declared.values.Value.TheVariants.{Unset, Off, On}
use Rattle.search.specs.declared.values.PartSetting.{PartSetting}

abbrev pub view : Value → Option Bool
view Unset = None
view Off = Some false
view On = Some true

abbrev pub value_of : Bool → Value
value_of true = On
value_of false = Off

-- what is set: switch v stands at index v - 1
abbrev pub part_of : PartSetting → Part
part_of s zero = None
part_of s (suc v) = view (slice_index_or s.values v Unset)

-- unset where it was set at a level above the limit
abbrev pub kept_to : ℕ → ℕ → Value → Value
kept_to limit level value = cond (nat_lt limit level) Unset value

-- what was set at a level up to the limit
abbrev pub upto : PartSetting → ℕ → Part
upto s limit zero = None
upto s limit (suc v) = view (kept_to limit (slice_index s.levels v) (slice_index_or s.values v Unset))

-- the values, each with its level, of which those up to the limit are kept
abbrev pub kept_values : ℕ → List ℕ → List Value → List Value
kept_values limit (l ∷ ls) (v ∷ vs) = kept_to limit l v ∷ kept_values limit ls vs
kept_values limit [] vs = vs
kept_values limit ls [] = []

-- back at a level
abbrev pub back : ℕ → PartSetting → PartSetting
back level s = record { values = kept_values level s.levels s.values; levels = s.levels; level = level }

-- from s to t one more switch was set, at the level; where it was unset, nothing below the level changed
pub record Puts (l : Literal) (s t : PartSetting) : Type 0 where
  pub part : part_of t ≡ put (part_of s) l
  pub level : t.level ≡ s.level
  pub below : (i : ℕ) → i < s.level → part_of s l.switch ≡ None → upto t i ≡ upto s i
  pub top : upto s s.level ≡ part_of s → upto t s.level ≡ part_of t
