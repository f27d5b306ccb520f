-- Part-settings: some switches set, the others not.
use Rattle.std.specs.Prelude.{◌≡◌, ℕ, Bool, true, cond, not, ◌⊎◌, is_some, Some, None, Option, ◌==◌}
use Rattle.rules.specs.declared.literals.Literal.{Literal}
use Rattle.rules.specs.Settings.{Setting}
use Rattle.rules.specs.Rows.{tally}

-- the value of each switch, absent where it is unset
abbrev pub Part : Type 0
Part = ℕ → Option Bool

-- nothing set
abbrev pub blank : Part
blank v = None

-- everything set, as s has it
abbrev pub full : Setting → Part
full s v = Some (s v)

-- p, and beside it the literal's switch set as the literal has it
abbrev pub put : Part → Literal → Part
put p l v = cond (l.switch == v) (Some l.on) (p v)

-- v is set
abbrev pub Set : Part → ℕ → Type 0
Set p v = is_some (p v) ≡ true

-- set, or the switch w itself
abbrev pub SetBut : Part → ℕ → ℕ → Type 0
SetBut p w v = (v ≡ w) ⊎ Set p v

-- q has all that p has
abbrev pub Extends : Part → Part → Type 0
Extends p q = (v : ℕ) (b : Bool) → p v ≡ Some b → q v ≡ Some b

-- how many of the n switches are unset
abbrev pub unset : ℕ → Part → ℕ
unset n p = tally (λ v. not (is_some (p v))) n

-- what f makes of the value, or d where there is none
abbrev pub maybe : {X Y : Type 0} → Option X → Y → (X → Y) → Y
maybe None d f = d
maybe (Some x) d f = f x
