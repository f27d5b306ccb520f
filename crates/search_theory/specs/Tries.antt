-- Tries, and what follows the forcing after them.
use Rattle.std.specs.Prelude.{◌≡◌, ℕ, zero, suc, ◌+◌, ◌-◌, ◌^◌, Bool, true, false, cond, not, ◌&&◌, ◌⊎◌, List, [], ◌∷◌, map, is_some, Some, None, Option}
use Rattle.std.specs.Option.{option_or, unwrap_or}
use Rattle.std.specs.Bool.{then_some}
use Rattle.std.specs.List.{range_with_len}
use Rattle.rules.specs.declared.literals.Literal.{Literal}
use Rattle.rules.specs.Settings.{Setting}
use Rattle.rules.specs.Constraints.{Constraint, Each, positive}
use Rattle.rules.specs.Rows.{free, tally}
use Rattle.search_theory.specs.Parts.{Part, blank, put, maybe}
use Rattle.search_theory.specs.Forcing.{any_dead, forced, Steps, Ended}

-- the literal -v
abbrev pub negative : ℕ → Literal
negative v = record { switch = v; on = false }

-- the part-setting of a stack of tries, the latest first: forcing begins with nothing set and follows each try
abbrev pub part : ℕ → List Constraint → List Literal → Part
part n system [] = forced n system blank
part n system (l ∷ ts) = forced n system (put (part n system ts) l)

-- the latest try at off turned to on, and those after it dropped
abbrev pub turn : List Literal → Option (List Literal)
turn [] = None
turn (l ∷ ts) = cond l.on (turn ts) (Some (positive l.switch ∷ ts))

-- the lowest of the switches 1 to n that passes a test
abbrev pub lowest : (ℕ → Bool) → ℕ → Option ℕ
lowest t zero = None
lowest t (suc n) = option_or (lowest t n) (then_some (t (suc n)) (suc n))

-- v is free and unset
abbrev pub is_open : List Constraint → Part → ℕ → Bool
is_open system p v = free system v && not (is_some (p v))

-- the values of the switches 1 to n, off where unset
abbrev pub values : ℕ → Part → List Bool
values n p = map (λ v. unwrap_or (p v) false) (range_with_len 1 n)

-- how far a search is: ended with the values of a setting, ended with nothing, or a further try is due:
-- the stack once it is made
pub data Course : Type 0 where
  found : List Bool → Course
  nothing : Course
  due : List Literal → Course

-- what follows the tries ts, where forcing after them ended at p
abbrev pub step_from : ℕ → List Constraint → List Literal → Part → Course
step_from n system ts p =
    cond (any_dead p system) (maybe (turn ts) nothing due) (maybe (lowest (is_open system p) n) (found (values n p)) (λ v. due (negative v ∷ ts)))

-- what follows the tries ts
abbrev pub step : ℕ → List Constraint → List Literal → Course
step n system ts = step_from n system ts (part n system ts)

-- the search stands at the tries ts once k tries are made
pub data Reach (n : ℕ) (system : List Constraint) : ℕ → List Literal → Type 0 where
  start : Reach n system 0 []
  more : {k : ℕ} {ts us : List Literal} → Reach n system k ts → step n system ts ≡ due us → Reach n system (suc k) us

-- p is where forcing may end after the tries ts, in whatever order it goes after each of them
pub data ForcedTo (system : List Constraint) : List Literal → Part → Type 0 where
  at_first : {p : Part} → Steps system blank p → Ended system p → ForcedTo system [] p
  after_try : {ts : List Literal} {p q : Part} {l : Literal} → ForcedTo system ts p → Steps system (put p l) q → Ended system q → ForcedTo system (l ∷ ts) q

-- each try was at the lowest switch that was free and unset, where nothing was dead
abbrev pub Proper : ℕ → List Constraint → List Literal → Type 0
Proper n system [] = Unit {0}
Proper n system (l ∷ ts) = (any_dead (part n system ts) system ≡ false) × (lowest (is_open system (part n system ts)) n ≡ Some l.switch) × Proper n system ts

-- s has what was tried
abbrev pub Agrees : Setting → List Literal → Type 0
Agrees s ts = Each (λ l. s l.switch ≡ l.on) ts

-- the search is past s: some try is at on where s has off, and s has what was tried before
abbrev pub Passed : Setting → List Literal → Type 0
Passed s [] = ⊥
Passed s (l ∷ ts) = ((l.on ≡ true) × (s l.switch ≡ false) × Agrees s ts) ⊎ Passed s ts

-- the most tries that a search can make: two for each inner node of a binary tree as deep as there are free switches
abbrev pub limit : ℕ → List Constraint → ℕ
limit n system = 2 ^ (tally (free system) n + 1) - 2
