-- The table of tries, as a stack.
use Rattle.std.specs.Prelude.{◌≡◌, ℕ, zero, suc, ◌+◌, ◌<◌, ◌≤◌, true, false, List, [], ◌∷◌, Option, MatchOption, slice_index_or}
use Rattle.rules.specs.declared.literals.Literal.{Literal}
use Rattle.search.specs.declared.tries.Try.{Try}
use Rattle.search.specs.declared.tries.Tries.{Tries}

abbrev pub no_try : Try
no_try = record { switch = 0; on = false }

abbrev pub turned : Try → Try
turned t = record { switch = t.switch; on = true }

abbrev pub literal_of : Try → Literal
literal_of t = record { switch = t.switch; on = t.on }

-- the first k tries of a table, the latest first
abbrev pub stack : List Try → ℕ → List Literal
stack ts zero = []
stack ts (suc k) = literal_of (slice_index_or ts k no_try) ∷ stack ts k

abbrev pub stack_of : Tries → List Literal
stack_of t = stack t.table t.count

-- where the latest try at off stands
abbrev pub LatestOff : Option ℕ → Tries → Type 0
LatestOff o t =
    MatchOption o ((k : ℕ) → k < t.count → (slice_index_or t.table k no_try).on ≡ true)
    (λ i. (i < t.count) × ((slice_index_or t.table i no_try).on ≡ false) × ((k : ℕ) → i < k → k < t.count → (slice_index_or t.table k no_try).on ≡ true))

-- the tries u are the first k of t, and l on top of them
pub record Tops (l : Literal) (k : ℕ) (t u : Tries) : Type 0 where
  pub count : u.count ≡ k + 1
  pub same : (i : ℕ) → i ≤ k → stack u.table i ≡ stack t.table i
  pub latest : stack_of u ≡ l ∷ stack t.table k
