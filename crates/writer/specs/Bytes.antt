-- The bytes of a first-year file, and buffers with bytes put over a part of them.
use Rattle.std.specs.Prelude.{ℕ, zero, suc, ◌+◌, ◌-◌, ◌/◌, ◌%◌, cond, List, [], ◌∷◌, ◌++◌, length, take, drop}
use Rattle.rules.specs.declared.literals.Literal.{Literal}

-- a number as two bytes, the low one first
abbrev pub low_high : ℕ → List ℕ
low_high w = w % 256 ∷ w / 256 % 256 ∷ []

-- a literal as a number of two bytes in two's complement: v for v, 65,536 - v for -v
abbrev pub literal_word : Literal → ℕ
literal_word l = cond l.on l.switch ((65536 - l.switch) % 65536)

-- k slots of two bytes: the literals in their order, then zeros
unfoldable pub slots : ℕ → List Literal → List ℕ
slots zero ls = []
slots (suc k) [] = 0 ∷ 0 ∷ slots k []
slots (suc k) (l ∷ ls) = low_high (literal_word l) ++ slots k ls

-- the record of a clause: the mark C L and eight slots
abbrev pub record_bytes : List Literal → List ℕ
record_bytes ls = 67 ∷ 76 ∷ slots 8 ls

-- a buffer with bytes put over what it holds from a place on
abbrev pub over_at : List ℕ → ℕ → List ℕ → List ℕ
over_at old at bytes = take at old ++ (bytes ++ drop (at + length bytes) old)
