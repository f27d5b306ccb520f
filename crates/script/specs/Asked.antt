-- The calls that a script asks for.
use Rattle.std.specs.Prelude.{ℕ, zero, suc, ◌+◌, ◌*◌, cond, List, [], ◌∷◌, length, drop, ℤ, Some, None, vec_items, Option, ◌==◌, nat_le, slice_index}
use Rattle.std.specs.Option.{option_map}
use Rattle.rules.specs.declared.kinds.RawKind.{RawKind}
use Rattle.rules.specs.declared.kinds.RawKind.TheVariants.{Clause, Parity}
use Rattle.files.specs.Numbers.{entries_in}
use Rattle.session.specs.declared.call.Call.{Call}
use Rattle.session.specs.declared.call.Call.TheVariants as call
use Rattle.script.specs.Heads.{word_at}

-- a take of a kind and entries, a settle with its budget, a copy with the length of its buffer
pub data Asked : Type 0 where
  take : RawKind → List ℤ → Asked
  freedom : Asked
  settle : ℕ → Asked
  copy : ℕ → Asked

-- the call in the code
abbrev pub asked : Call → Asked
asked (call.Take rule) = take rule.kind (vec_items rule.entries)
asked call.Freedom = freedom
asked (call.Settle b) = settle b
asked (call.Copy k) = copy k

-- a call, and the bytes behind its record
pub record AskedAt : Type 0 where
  pub call : Asked
  pub rest : List ℕ

abbrev pub before : List ℕ → Asked → AskedAt
before bs c = record { call = c; rest = bs }

-- THE CALLS, by the bytes behind their mark

-- a take of w entries, which the bytes es begin with
abbrev pub take_at : RawKind → ℕ → List ℕ → Option AskedAt
take_at kind w es = cond (nat_le (2 * w) (length es)) (Some (before (drop (2 * w) es) (take kind (entries_in w es)))) None

-- the record, where there are k bytes at least
abbrev pub where_long : ℕ → List ℕ → Option AskedAt → Option AskedAt
where_long k bs r = cond (nat_le k (length bs)) r None

-- a number of entries, and the entries
abbrev pub clause_at : List ℕ → Option AskedAt
clause_at bs = where_long 1 bs (take_at Clause (slice_index bs 0) (drop 1 bs))

-- a side, a number of entries, and the entries
abbrev pub parity_at : List ℕ → Option AskedAt
parity_at bs = where_long 2 bs (take_at (Parity (slice_index bs 0)) (slice_index bs 1) (drop 2 bs))

-- a budget of four bytes
abbrev pub settle_at : List ℕ → Option AskedAt
settle_at bs = where_long 4 bs (Some (before (drop 4 bs) (settle (word_at bs 0 + 65536 * word_at bs 2))))

-- a length of two bytes
abbrev pub copy_at : List ℕ → Option AskedAt
copy_at bs = where_long 2 bs (Some (before (drop 2 bs) (copy (word_at bs 0))))

-- the marks: C (43) and P (50) of takes, F (46) of freedom, S (53) of settle, B (42) of copy
abbrev pub marked_call : ℕ → List ℕ → Option AskedAt
marked_call mark bs =
    cond (mark == 67) (clause_at bs)
    (cond (mark == 80) (parity_at bs)
    (cond (mark == 70) (Some (before bs freedom))
    (cond (mark == 83) (settle_at bs)
    (cond (mark == 66) (copy_at bs) None))))

-- the call at the front of the bytes
abbrev pub call_at : List ℕ → Option AskedAt
call_at bs = where_long 1 bs (marked_call (slice_index bs 0) (drop 1 bs))

-- the first call, before those that are asked for behind its record
abbrev pub call_then : (List ℕ → Option (List Asked)) → Option AskedAt → Option (List Asked)
call_then later None = None
call_then later (Some c) = option_map (λ cs. c.call ∷ cs) (later c.rest)

-- so many calls, and nothing behind them
unfoldable pub calls_in : ℕ → List ℕ → Option (List Asked)
calls_in zero bs = cond (length bs == 0) (Some []) None
calls_in (suc k) bs = call_then (calls_in k) (call_at bs)
