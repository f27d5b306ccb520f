-- What a writer leaves in a buffer that it was lent.
use Rattle.std.specs.Prelude.{◌≡◌, ℕ, ◌<◌, List, ◌++◌, length, drop, Ok, Err, Result}
use Rattle.rules.specs.declared.faults.Layer.TheVariants.{Writer}
use Rattle.rules.specs.declared.faults.Cause.TheVariants.{ShortBuffer}
use Rattle.rules.specs.declared.faults.Fault.{Fault}
use Rattle.rules.specs.Faults.{fault}
use Rattle.text.specs.declared.errors.TextError.{TextError}
use Rattle.text.specs.declared.errors.TextError.TheVariants.{Refused, Memory}

-- the bytes of a text over the front of a buffer
abbrev pub over_front : List ℕ → List ℕ → List ℕ
over_front bytes old = bytes ++ drop (length bytes) old

-- the text stands at the front and its length is told, or the buffer is too short for it and is as it was
abbrev pub Written : List ℕ → List ℕ → List ℕ → Result ℕ Fault → Type 0
Written bytes old new (Ok n) = (n ≡ length bytes) × (new ≡ over_front bytes old)
Written bytes old new (Err f) = (length old < length bytes) × (f ≡ fault Writer ShortBuffer 0 0) × (new ≡ old)

-- the same of a writer that takes memory: for want of it, nothing is written
abbrev pub WrittenOr : List ℕ → List ℕ → List ℕ → Result ℕ TextError → Type 0
WrittenOr bytes old new (Ok n) = Written bytes old new (Ok n)
WrittenOr bytes old new (Err (Refused f)) = Written bytes old new (Err f)
WrittenOr bytes old new (Err Memory) = new ≡ old
