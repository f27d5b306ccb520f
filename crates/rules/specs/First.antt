-- The first of several findings, and what is given where there is one and where there is none.
use Rattle.std.specs.Prelude.{ℕ, zero, suc, Bool, true, false, cond, ◌&&◌, ◌||◌, List, [], ◌∷◌, Some, None, Ok, Err, Option, Result}
use Rattle.std.specs.Option.{option_or}

-- the first of f 0, f 1, .. f (k - 1) that there is
unfoldable pub first_of : {X : Type 0} → (ℕ → Option X) → ℕ → Option X
first_of f zero = None
first_of f (suc k) = option_or (first_of f k) (f k)

-- one of t 0, t 1, .. t (k - 1) is true
unfoldable pub some_below : (ℕ → Bool) → ℕ → Bool
some_below t zero = false
some_below t (suc k) = some_below t k || t k

-- the finding where the test fails, else what a later test finds
abbrev pub unless : {X : Type 0} → Bool → X → Option X → Option X
unless passes finding later = cond passes later (Some finding)

-- every element passes the test
abbrev pub every : {X : Type 0} → (X → Bool) → List X → Bool
every t [] = true
every t (x ∷ xs) = t x && every t xs

-- a value, or the fault that stands in its way
abbrev pub verdict : {X F : Type 0} → Option F → X → Result X F
verdict None x = Ok x
verdict (Some f) x = Err f

-- a result with its value seen through f
abbrev pub on_ok : {X Y F : Type 0} → (X → Y) → Result X F → Result Y F
on_ok f (Ok x) = Ok (f x)
on_ok f (Err e) = Err e

-- a value, or the error that is told where there is none
abbrev pub or_error : {X E : Type 0} → Option X → E → Result X E
or_error (Some x) e = Ok x
or_error None e = Err e
