use Rattle.std.proofs.Common.{◌≡◌, ℕ, zero, suc, ◌+◌, ◌-◌, ◌*◌, ◌/◌, ◌<◌, cond, ltb, List, [], ◌∷◌, ◌++◌, pos, negsuc, length, length-set, take, drop, get_or, slice_index, sym, refl, ap, ◌∙◌, lit<, w16, to_z, of_z, arith, rules}
use Rattle.std.specs.Simd.{first_chunks}
use Rattle.std.proofs.lemmas.List.{get_or-take, get_or-drop, length-take-le, take_more_set}
use Rattle.std.proofs.lemmas.Int.{to_z-of_z}
use Rattle.std.proofs.lemmas.List.FromFn.{map-range_with_len_more}
use Rattle.files.specs.Numbers.{word, signed, entry}
use Rattle.files.proofs.numbers.decode.Goals as goal

-- a byte of the i-th pair
in_pair : (bytes : List ℕ) (k i h j : ℕ) → i < k → h < 2 → j ≡ 2 * i + h → slice_index (get_or (first_chunks 2 k bytes) i []) h ≡ slice_index bytes j
in_pair bytes zero i h j below low at = absurd (omega arith)
in_pair bytes (suc k) zero h j below low at = let same : h ≡ j = omega arith in get_or-take 2 bytes h 0 low ∙ ap (slice_index bytes) same
in_pair bytes (suc k) (suc i) h j below low at =
    let same : 2 + (2 * i + h) ≡ j = omega arith in
    in_pair (drop 2 bytes) k i h (2 * i + h) (omega arith) low refl ∙ get_or-drop 2 bytes (2 * i + h) 0 ∙ ap (slice_index bytes) same

signed_is : (w : ℕ) → to_z w16 w ≡ signed w
signed_is w = let same : 65536 - suc w ≡ 65535 - w = omega arith in ap (λ k. cond (ltb w 32768) (pos w) (negsuc k)) same

entry_of : (bytes pair : List ℕ) (i : ℕ) → slice_index pair 0 ≡ slice_index bytes (2 * i) → slice_index pair 1 ≡ slice_index bytes (2 * i + 1) → to_z w16 (slice_index pair 0 + slice_index pair 1 * 256) ≡ entry bytes i
entry_of bytes pair i low high =
    let same : slice_index pair 0 + slice_index pair 1 * 256 ≡ word (slice_index bytes (2 * i)) (slice_index bytes (2 * i + 1)) = omega arith in
    ap (to_z w16) same ∙ signed_is _

pub loop-i-preserved : goal.loop-i-preserved
loop-i-preserved c =
    let bytes = c.args.bytes.now in
    let i = c.loop-i.i in
    let front = take (2 * c.args.count) bytes in
    let long : length front ≡ 2 * c.args.count = length-take-le (2 * c.args.count) bytes (omega (arith, c.requires)) in
    let here : i < length front / 2 = omega (arith, c.as_chunks.ensures.front_len) in
    let byte : (h j : ℕ) → h < 2 → j ≡ 2 * i + h → slice_index (get_or c.as_chunks.result.0.now i []) h ≡ slice_index bytes j = λ h j low at.
    ap (λ pairs. slice_index (get_or pairs i []) h) c.as_chunks.ensures.front ∙ in_pair front _ i h j here low at
    ∙ get_or-take (2 * c.args.count) bytes j 0 (omega arith) in
    let this : to_z w16 (of_z w16 c.from_le_bytes.result) ≡ entry bytes i =
    to_z-of_z w16 _ (search rules) ∙ c.from_le_bytes.ensures ∙ entry_of bytes (get_or c.as_chunks.result.0.now i []) i (byte 0 (2 * i) (lit< tt) (omega arith)) (byte 1 (2 * i + 1) (lit< tt) refl) in
    record {
      sized = length-set c.loop-i.entries _ _ ∙ c.loop-i.invariant.sized;
      read =
          take_more_set c.loop-i.entries i _ (omega (arith, c.requires, c.loop-i.invariant.sized)) ∙ (λ t. c.loop-i.invariant.read t ++ this t ∷ [])
          ∙ sym (map-range_with_len_more (entry bytes) 0 i i (omega arith));
    }
