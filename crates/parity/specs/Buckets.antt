-- Rules in buckets: clauses on exactly the same switches are in the same one.
use Rattle.std.specs.Prelude.{◌≡◌, ℕ, ◌+◌, ◌%◌, ◌<◌, ◌≤◌, Bool, true, false, cond, List, [], map, length, drop, Some, None, Option, ◌==◌, nat_lt, slice_index_or, sum}
use Rattle.std.specs.List.{position_from}
use Rattle.rules.specs.declared.literals.Literal.{Literal}
use Rattle.rules.specs.Constraints.{Constraint, clause, parity, switch_of}

-- the bucket of the clauses on exactly the switches vs
abbrev pub shared_bucket : List ℕ → ℕ
shared_bucket vs = sum vs % 256

-- the bucket of a clause; one of more than five literals recovers nothing, and has none
abbrev pub bucket : List Literal → Option ℕ
bucket ls = cond (nat_lt 5 (length ls)) None (Some (shared_bucket (map switch_of ls)))

-- the bucket is b
abbrev pub is_bucket : ℕ → Option ℕ → Bool
is_bucket b None = false
is_bucket b (Some c) = c == b

-- the rule is in bucket b
abbrev pub is_in : ℕ → Constraint → Bool
is_in b (clause ls) = is_bucket b (bucket ls)
is_in b (parity vs side) = false

abbrev pub no_rule : Constraint
no_rule = clause []

-- the index of the first rule in bucket b from index i on, if there is one
abbrev pub first_from : List Constraint → ℕ → ℕ → Option ℕ
first_from rules b i = position_from (is_in b) i (drop i rules)

-- the rules from index i on are linked: `first` leads to the first of them in each bucket, and `next` from each to the next in its bucket
pub record LinkedFrom (rules : List Constraint) (i : ℕ) (first next : List (Option ℕ)) : Type 0 where
  pub room : length rules ≤ 2112
  pub starts : (b : ℕ) → b < 256 → slice_index_or first b None ≡ first_from rules b i
  pub goes_on : (b k : ℕ) → i ≤ k → k < length rules → is_in b (slice_index_or rules k no_rule) ≡ true → slice_index_or next k None ≡ first_from rules b (k + 1)

-- all rules are linked
abbrev pub Linked : List Constraint → List (Option ℕ) → List (Option ℕ) → Type 0
Linked rules first next = LinkedFrom rules 0 first next
