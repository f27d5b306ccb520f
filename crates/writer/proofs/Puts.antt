-- Bytes put one behind the other.
use Rattle.std.proofs.Common.{◌≡◌, ℕ, ◌+◌, ◌<◌, ◌≤◌, List, [], ◌∷◌, ◌++◌, length, get_or, take, sym, refl, ap, ◌∙◌, arith, length-append}
use Rattle.std.specs.List.{flat_map}
use Rattle.std.proofs.lemmas.Grind.{flat_map-append}
use Rattle.std.proofs.lemmas.List.{append-nil, take_more}
use Rattle.std.proofs.lemmas.List.Folds.{length-flat_map-take}
use Rattle.writer.specs.declared.output.Output.{Output}
use Rattle.writer.specs.Bytes.{over_at}
use Rattle.writer.specs.Output.{HasRoom, Puts}
use Rattle.writer.proofs.Buffers.{over_none, over_over, length_over}

pub puts_none : (o : Output) → Puts [] o o
puts_none o = record { same_buffer = refl; more = omega arith; over = sym (over_none o.buffer.now o.end) }

-- the buffer keeps its length
pub puts_length : (bytes : List ℕ) (o n : Output) → HasRoom bytes o → Puts bytes o n → length n.buffer.now ≡ length o.buffer.now
puts_length bytes o n room p = ap length p.over ∙ length_over o.buffer.now o.end bytes room

-- bytes, and more bytes right behind them
pub puts_then : (a b : List ℕ) (o m n : Output) → o.end ≤ length o.buffer.now → Puts a o m → Puts b m n → Puts (a ++ b) o n
puts_then a b o m n within p q =
    record {
      same_buffer = q.same_buffer ∙ p.same_buffer;
      more = omega (arith, p.more, q.more, length-append a b);
      over = q.over ∙ ap (λ l. over_at l m.end b) p.over ∙ over_over o.buffer.now a b o.end m.end within p.more;
    }

-- the bytes of the elements of a list, one element after the other
module _ {X : Type 0} (f : X → List ℕ) (xs : List X) (i : ℕ) (d : X) (o m : Output) (room : HasRoom (flat_map f xs) o) (put : Puts (flat_map f (take i xs)) o m) (here : i < length xs) where
  pub room_next : HasRoom (f (get_or xs i d)) m
  room_next =
      let upto = length-flat_map-take f xs i d here in
      let kept = puts_length (flat_map f (take i xs)) o m (omega arith) put in
      omega (arith, put.more)

  pub puts_next : (n : Output) → Puts (f (get_or xs i d)) m n → Puts (flat_map f (take (i + 1) xs)) o n
  puts_next n more =
      let both : flat_map f (take (i + 1) xs) ≡ flat_map f (take i xs) ++ f (get_or xs i d) =
      ap (flat_map f) (take_more xs i d here) ∙ flat_map-append f (take i xs) (get_or xs i d ∷ []) ∙ ap (λ l. flat_map f (take i xs) ++ l) (append-nil (f (get_or xs i d))) in
      rw both (puts_then (flat_map f (take i xs)) (f (get_or xs i d)) o m n (omega arith) put more)

pub room_front : (a b : List ℕ) (o : Output) → HasRoom (a ++ b) o → HasRoom a o
room_front a b o room = omega (arith, length-append a b)

pub room_then : (a b : List ℕ) (o m : Output) → HasRoom (a ++ b) o → Puts a o m → HasRoom b m
room_then a b o m room p = omega (arith, length-append a b, p.more, puts_length a o m (room_front a b o room) p)
