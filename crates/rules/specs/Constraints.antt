-- Rules as the subject has them, whatever holds them, and the settings that keep them.
use Rattle.std.specs.Prelude.{◌≡◌, ℕ, Bool, true, false, not, ◌||◌, ◌⊎◌, List, [], ◌∷◌, map}
use Rattle.rules.specs.declared.literals.Literal.{Literal}
use Rattle.rules.specs.declared.kinds.Side.{Side}
use Rattle.rules.specs.declared.kinds.Side.TheVariants.{Even, Odd}
use Rattle.rules.specs.declared.kinds.Kind.{Kind}
use Rattle.rules.specs.declared.kinds.Kind.TheVariants.{Clause, Parity}
use Rattle.rules.specs.Settings.{Setting, Within, Earlier}

-- a rule: a clause with its literals, or a parity rule with its switches and its side
pub data Constraint : Type 0 where
  clause : List Literal → Constraint
  parity : List ℕ → Side → Constraint
  deriving IsSet as constraint_is_set

-- one of the two is true, and not both
abbrev pub xor : Bool → Bool → Bool
xor true b = not b
xor false b = b

-- both are true, or both are false
abbrev pub same : Bool → Bool → Bool
same a b = not (xor a b)

-- a literal is kept when its switch has its value
abbrev pub literal_kept : Setting → Literal → Bool
literal_kept s l = same l.on (s l.switch)

-- a clause is kept when at least one of its literals is
abbrev pub some_kept : Setting → List Literal → Bool
some_kept s [] = false
some_kept s (l ∷ ls) = literal_kept s l || some_kept s ls

-- an odd number of the switches is on
abbrev pub odd_on : Setting → List ℕ → Bool
odd_on s [] = false
odd_on s (v ∷ vs) = xor (s v) (odd_on s vs)

-- the side asks for an odd number
abbrev pub is_odd : Side → Bool
is_odd Even = false
is_odd Odd = true

-- the side of the rules that ask for an odd number, or for an even one
abbrev pub side_when : Bool → Side
side_when true = Odd
side_when false = Even

-- s keeps the rule: a literal of a clause is kept, or the number of switches of a parity rule that are on is of its side
abbrev pub kept : Setting → Constraint → Bool
kept s (clause ls) = some_kept s ls
kept s (parity vs side) = same (is_odd side) (odd_on s vs)

module _ {X : Type 0} where
  -- each element has the property
  abbrev pub Each : (X → Type 0) → List X → Type 0
  Each P [] = Unit {0}
  Each P (x ∷ xs) = P x × Each P xs

  -- some element has it
  abbrev pub SomeOf : (X → Type 0) → List X → Type 0
  SomeOf P [] = ⊥
  SomeOf P (x ∷ xs) = P x ⊎ SomeOf P xs

-- s keeps every rule
abbrev pub Keeps : List Constraint → Setting → Type 0
Keeps rules s = Each (λ r. kept s r ≡ true) rules

-- s keeps every rule, and any other setting of the n switches that does is later
pub record Earliest (n : ℕ) (rules : List Constraint) (s : Setting) : Type 0 where
  pub keeps : Keeps rules s
  pub first : (t : Setting) → Keeps rules t → ((v : ℕ) → Within n v → s v ≡ t v) ⊎ Earlier n s t

-- the kind of a rule, with the side
abbrev pub kind : Constraint → Kind
kind (clause ls) = Clause
kind (parity vs side) = Parity side

-- the switch of a literal
abbrev pub switch_of : Literal → ℕ
switch_of l = l.switch

-- the literal v
abbrev pub positive : ℕ → Literal
positive v = record { switch = v; on = true }

-- the switches that a rule names, in its order
abbrev pub switches : Constraint → List ℕ
switches (clause ls) = map switch_of ls
switches (parity vs side) = vs

-- the entries of a rule, in its order: a switch of a parity rule is told as its positive literal
abbrev pub entries : Constraint → List Literal
entries (clause ls) = ls
entries (parity vs side) = map positive vs
