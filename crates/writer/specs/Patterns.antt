-- Settings of a few switches as numbers: the values are the bits of the number, the first switch's the highest.
use Rattle.std.specs.Prelude.{ℕ, ◌-◌, ◌/◌, ◌%◌, ◌^◌, Bool, List, map, ◌==◌}
use Rattle.std.specs.List.{range_with_len}

-- whether switch j of w is on in the pattern p
abbrev pub value : ℕ → ℕ → ℕ → Bool
value w p j = p / 2 ^ (w - 1 - j) % 2 == 1

-- the values of w switches in the pattern p
abbrev pub values : ℕ → ℕ → List Bool
values w p = map (value w p) (range_with_len 0 w)
