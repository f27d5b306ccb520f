-- The slots of a record as its literals come in.
use Rattle.std.proofs.Common.{◌≡◌, ℕ, zero, suc, ◌+◌, ◌*◌, ◌/◌, ◌%◌, ◌<◌, List, [], ◌∷◌, length, get_or, take, set, replicate, sym, refl, ap, ◌∙◌, add-one, arith}
use Rattle.rules.specs.declared.literals.Literal.{Literal}
use Rattle.writer.specs.Bytes.{low_high, literal_word, slots, record_bytes}

pub length_slots : (k : ℕ) (ls : List Literal) → length (slots k ls) ≡ 2 * k
unfolding slots
length_slots zero ls = refl
length_slots (suc k) [] = let ih = length_slots k [] in omega arith
length_slots (suc k) (l ∷ ls) = let ih = length_slots k ls in omega arith

pub length_record : (ls : List Literal) → length (record_bytes ls) ≡ 18
length_record ls = let eight = length_slots 8 ls in omega arith

-- both bytes of slot j written
abbrev with_slot : List ℕ → ℕ → ℕ → List ℕ
with_slot bytes j w = set (set bytes (2 * j) (w % 256)) (2 * j + 1) (w / 256 % 256)

with_slot_front : (a b : ℕ) (bytes : List ℕ) (j w : ℕ) → with_slot (a ∷ b ∷ bytes) (suc j) w ≡ a ∷ b ∷ with_slot bytes j w
with_slot_front a b bytes j w =
    let e : 2 * suc j ≡ suc (suc (2 * j)) = omega arith in
    let o : 2 * suc j + 1 ≡ suc (suc (2 * j + 1)) = omega arith in
    rw (o, e)

slot_more : (k : ℕ) (ls : List Literal) (j : ℕ) (d : Literal) → j < k → j < length ls → with_slot (slots k (take j ls)) j (literal_word (get_or ls j d)) ≡ slots k (take (suc j) ls)
unfolding slots
slot_more zero ls j d h lt = absurd (omega arith)
slot_more (suc k) [] j d h lt = absurd (omega arith)
slot_more (suc k) (l ∷ ls) zero d h lt = refl
slot_more (suc k) (l ∷ ls) (suc j) d h lt = with_slot_front _ _ (slots k (take j ls)) j _ ∙ ap (λ x. literal_word l % 256 ∷ literal_word l / 256 % 256 ∷ x) (slot_more k ls j d (omega arith) (omega arith))

pub record_more : (ls : List Literal) (j : ℕ) (d : Literal) (bytes slot : List ℕ) → j < 8 → j < length ls → slot ≡ low_high (literal_word (get_or ls j d)) → bytes ≡ record_bytes (take j ls) → set (set bytes (2 + 2 * j) (get_or slot 0 0)) (2 + 2 * j + 1) (get_or slot 1 0) ≡ record_bytes (take (j + 1) ls)
record_more ls j d bytes slot h lt here inv =
    let low : ℕ = literal_word (get_or ls j d) % 256 in
    let high : ℕ = literal_word (get_or ls j d) / 256 % 256 in
    let e : 2 + 2 * j ≡ suc (suc (2 * j)) = omega arith in
    let o : suc (suc (2 * j)) + 1 ≡ suc (suc (2 * j + 1)) = omega arith in
    ap (λ s. set (set bytes (2 + 2 * j) (get_or s 0 0)) (2 + 2 * j + 1) (get_or s 1 0)) here
    ∙ ap (λ x. set (set x (2 + 2 * j) low) (2 + 2 * j + 1) high) inv
    ∙ ap (λ n. set (set (record_bytes (take j ls)) n low) (n + 1) high) e
    ∙ ap (λ n. set (67 ∷ 76 ∷ set (slots 8 (take j ls)) (2 * j) low) n high) o
    ∙ ap (λ x. 67 ∷ 76 ∷ x) (slot_more 8 ls j d h lt)
    ∙ ap (λ n. record_bytes (take n ls)) (sym (add-one j))

-- eight empty slots
pub record_none : 67 ∷ 76 ∷ replicate 16 0 ≡ record_bytes []
unfolding slots
record_none = refl
