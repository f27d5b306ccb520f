-- Entries of two bytes each.
use Rattle.std.proofs.Common.{◌≡◌, ℕ, zero, suc, ◌+◌, ◌-◌, ◌*◌, ◌/◌, ◌<◌, cond, ltb, List, ◌∷◌, map, ℤ, pos, negsuc, length, drop, take, slice_index, sym, refl, ap, ◌∙◌, lit<, w16, to_z, arith}
use Rattle.std.specs.Simd.{first_chunks}
use Rattle.std.specs.List.{range_with_len}
use Rattle.std.proofs.lemmas.List.{get_or-take, get_or-drop}
use Rattle.files.specs.Numbers.{word, signed, entry, entries_in}

-- the number of a pair of bytes, the low one first
abbrev pub of_pair : List ℕ → ℤ
of_pair pair = to_z w16 (slice_index pair 0 + slice_index pair 1 * 256)

signed_is : (w : ℕ) → to_z w16 w ≡ signed w
signed_is w = let same : 65536 - suc w ≡ 65535 - w = omega arith in ap (λ k. cond (ltb w 32768) (pos w) (negsuc k)) same

-- k pairs at the front of bs, which stand i pairs behind the beginning of all
entries_from : (all : List ℕ) (k i : ℕ) (bs : List ℕ) → ((j : ℕ) → j < 2 * k → slice_index bs j ≡ slice_index all (2 * i + j)) → map of_pair (first_chunks 2 k bs) ≡ map (entry all) (range_with_len i k)
entries_from all zero i bs at = refl
entries_from all (suc k) i bs at =
    let none : 2 * i + 0 ≡ 2 * i = omega arith in
    let low : slice_index (take 2 bs) 0 ≡ slice_index all (2 * i) = get_or-take 2 bs 0 0 (lit< tt) ∙ at 0 (omega arith) ∙ ap (slice_index all) none in
    let high : slice_index (take 2 bs) 1 ≡ slice_index all (2 * i + 1) = get_or-take 2 bs 1 0 (lit< tt) ∙ at 1 (omega arith) in
    let same : slice_index (take 2 bs) 0 + slice_index (take 2 bs) 1 * 256 ≡ word (slice_index all (2 * i)) (slice_index all (2 * i + 1)) = omega arith in
    let here : of_pair (take 2 bs) ≡ entry all i = ap (to_z w16) same ∙ signed_is _ in
    let later = entries_from all k (i + 1) (drop 2 bs) (λ j below. let place : 2 * i + (2 + j) ≡ 2 * (i + 1) + j = omega arith in get_or-drop 2 bs j 0 ∙ at (2 + j) (omega arith) ∙ ap (slice_index all) place) in
    λ t. here t ∷ later t

pub entries_of_pairs : (bs : List ℕ) (k : ℕ) → map of_pair (first_chunks 2 k bs) ≡ entries_in k bs
entries_of_pairs bs k = entries_from bs k 0 bs (λ j below. let place : j ≡ 2 * 0 + j = omega arith in ap (slice_index bs) place)

-- the entries that the first bytes of bs are
pub entries_of_front : (bs front : List ℕ) (w : ℕ) → front ≡ take (2 * w) bs → length front ≡ 2 * w → entries_in (length front / 2) front ≡ entries_in w bs
entries_of_front bs front w cut long =
    let all : length front / 2 ≡ w = omega arith in
    sym (entries_of_pairs front (length front / 2)) ∙ ap (λ k. map of_pair (first_chunks 2 k front)) all
    ∙ entries_from bs w 0 front (λ j below. let place : j ≡ 2 * 0 + j = omega arith in ap (λ l. slice_index l j) cut ∙ get_or-take (2 * w) bs j 0 below ∙ ap (slice_index bs) place)
