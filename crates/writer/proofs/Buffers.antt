-- Buffers with bytes put over a part of them.
use Rattle.std.proofs.Common.{◌≡◌, ℕ, ◌+◌, ◌≤◌, List, [], ◌++◌, length, take, drop, sym, ap, ◌∙◌, append_assoc, arith, length-append, length-drop}
use Rattle.std.proofs.lemmas.List.{drop-drop, take_at, drop_at, length-take-le, take-append-drop}
use Rattle.text.specs.Lent.{over_front}
use Rattle.writer.specs.Bytes.{over_at}

pub over_none : (old : List ℕ) (at : ℕ) → over_at old at [] ≡ old
over_none old at = let k : at + 0 ≡ at = omega arith in ap (λ n. take at old ++ drop n old) k ∙ take-append-drop at old

pub length_over : (old : List ℕ) (at : ℕ) (bytes : List ℕ) → at + length bytes ≤ length old → length (over_at old at bytes) ≡ length old
length_over old at bytes room =
    omega (arith, length-append (take at old) (bytes ++ drop (at + length bytes) old), length-append bytes (drop (at + length bytes) old), length-take-le at old (omega arith), length-drop (at + length bytes) old)

-- bytes, and more bytes right behind them
pub over_over : (old a b : List ℕ) (at behind : ℕ) → at ≤ length old → behind ≡ at + length a → over_at (over_at old at a) behind b ≡ over_at old at (a ++ b)
over_over old a b at behind within is =
    let front : List ℕ = take at old ++ a in
    let rest : List ℕ = drop (at + length a) old in
    let long : length front ≡ behind = length-append (take at old) a ∙ ap (λ n. n + length a) (length-take-le at old within) ∙ sym is in
    let split : over_at old at a ≡ front ++ rest = sym (append_assoc (take at old) a rest) in
    let past : drop (behind + length b) (front ++ rest) ≡ drop (at + length (a ++ b)) old =
    sym (drop-drop (length b) behind (front ++ rest)) ∙ ap (drop (length b)) (drop_at front rest behind long) ∙ drop-drop (length b) (at + length a) old ∙ ap (λ n. drop n old) (omega (arith, length-append a b)) in
    ap (λ l. over_at l behind b) split
    ∙ ap (λ l. l ++ (b ++ drop (behind + length b) (front ++ rest))) (take_at front rest behind long)
    ∙ ap (λ l. front ++ (b ++ l)) past
    ∙ append_assoc (take at old) a _
    ∙ ap (λ l. take at old ++ l) (sym (append_assoc a b _))

pub over_all : (old bytes : List ℕ) → over_at old 0 bytes ≡ over_front bytes old
over_all old bytes = let k : 0 + length bytes ≡ length bytes = omega arith in ap (λ n. bytes ++ drop n old) k
