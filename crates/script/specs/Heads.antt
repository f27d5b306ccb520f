-- The head of a script: S C (53 43), the shape, and four numbers of two bytes.
use Rattle.std.specs.Prelude.{ℕ, ◌+◌, Bool, cond, ◌&&◌, List, length, Some, None, Option, ◌==◌, Result, nat_le, slice_index}
use Rattle.std.specs.Option.{option_map}
use Rattle.rules.specs.First.{or_error}
use Rattle.files.specs.Numbers.{word}
use Rattle.script.specs.declared.errors.ScriptError.{ScriptError}
use Rattle.script.specs.declared.errors.ScriptError.TheVariants.{Form}
use Rattle.script.specs.declared.head.Shape.{Shape}
use Rattle.script.specs.declared.head.Shape.TheVariants.{Plain, Placed, Paired, Stacked}
use Rattle.script.specs.declared.head.Head.{Head}

abbrev pub shape_of : ℕ → Option Shape
shape_of b = cond (b == 0) (Some Plain) (cond (b == 1) (Some Placed) (cond (b == 2) (Some Paired) (cond (b == 3) (Some Stacked) None)))

-- the shape, or the error of bytes that follow no format
abbrev pub shape_or_form : ℕ → Result Shape ScriptError
shape_or_form b = or_error (shape_of b) Form

-- the number of two bytes at a place
abbrev pub word_at : List ℕ → ℕ → ℕ
word_at bs i = word (slice_index bs i) (slice_index bs (i + 1))

abbrev pub head_with : List ℕ → Shape → Head
head_with bs s = record { shape = s; by = word_at bs 3; first = word_at bs 5; second = word_at bs 7; calls = word_at bs 9 }

abbrev pub is_marked : List ℕ → Bool
is_marked bs = nat_le 11 (length bs) && (slice_index bs 0 == 83 && slice_index bs 1 == 67)

abbrev pub head_at : List ℕ → Option Head
head_at bs = cond (is_marked bs) (option_map (head_with bs) (shape_of (slice_index bs 2))) None
