-- Bytes put one behind the other into a lent buffer.
use Rattle.std.specs.Prelude.{◌≡◌, ℕ, ◌+◌, ◌≤◌, List, length}
use Rattle.writer.specs.declared.output.Output.{Output}
use Rattle.writer.specs.Bytes.{over_at}

-- the buffer has room for the bytes behind those that are put
abbrev pub HasRoom : List ℕ → Output → Type 0
HasRoom bytes o = o.end + length bytes ≤ length o.buffer.now

-- the bytes are put behind those that were, into the same buffer
pub record Puts (bytes : List ℕ) (old new : Output) : Type 0 where
  pub same_buffer : new.buffer.ghost_name ≡ old.buffer.ghost_name
  pub more : new.end ≡ old.end + length bytes
  pub over : new.buffer.now ≡ over_at old.buffer.now old.end bytes
