-- Numbers in a file.
use Rattle.std.specs.Prelude.{ℕ, ◌+◌, ◌-◌, ◌*◌, cond, List, map, ℤ, pos, negsuc, nat_lt, slice_index}
use Rattle.std.specs.List.{range_with_len}

-- two bytes, the low one first
abbrev pub word : ℕ → ℕ → ℕ
word low high = low + 256 * high

-- the number that two bytes are in two's complement
abbrev pub signed : ℕ → ℤ
signed w = cond (nat_lt w 32768) (pos w) (negsuc (65535 - w))

-- entry i of a rule, its entries being the bytes es
abbrev pub entry : List ℕ → ℕ → ℤ
entry es i = signed (word (slice_index es (2 * i)) (slice_index es (2 * i + 1)))

-- the first w entries
abbrev pub entries_in : ℕ → List ℕ → List ℤ
entries_in w es = map (entry es) (range_with_len 0 w)
