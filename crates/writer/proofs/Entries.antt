-- The slots of a record, read back as entries.
use Rattle.std.proofs.Common.{◌≡◌, ℕ, zero, suc, ◌+◌, ◌-◌, ◌*◌, ◌/◌, ◌%◌, ◌<◌, ◌≤◌, Bool, true, false, cond, List, [], ◌∷◌, ◌++◌, map, length, get_or, drop, ℤ, pos, negsuc, None, refl, ap, ◌∙◌, ap₂, arith}
use lib.ListN.{length-map}
use Rattle.std.specs.List.{range_with_len}
use Rattle.std.proofs.lemmas.Bool.{cond-true, cond-false, lt-ltb, le-ltb, ne_eqb}
use Rattle.rules.specs.declared.literals.Literal.{Literal}
use Rattle.rules.specs.Settings.{Within}
use Rattle.rules.specs.Constraints.{Each}
use Rattle.rules.specs.Entries.{literal}
use Rattle.files.specs.Numbers.{word, signed, entry, entries_in}
use Rattle.files.specs.FirstFormat.{is_empty, used_slots, filled_from, gap}
use Rattle.writer.specs.Bytes.{literal_word, slots}

-- the entry that names a literal
abbrev pub entry_of : Literal → ℤ
entry_of l = cond l.on (pos l.switch) (negsuc (l.switch - 1))

abbrev pub InRange : Literal → Type 0
InRange l = Within 256 l.switch

pub two_bytes : (w : ℕ) → w < 65536 → word (w % 256) (w / 256 % 256) ≡ w
two_bytes w h = omega arith

signed_below : (w : ℕ) → w < 32768 → signed w ≡ pos w
signed_below w h = cond-true _ _ _ (lt-ltb w 32768 h)

signed_above : (w : ℕ) → 32768 ≤ w → signed w ≡ negsuc (65535 - w)
signed_above w h = cond-false _ _ _ (le-ltb w 32768 h)

slot_read : (l : Literal) → InRange l → signed (word (literal_word l % 256) (literal_word l / 256 % 256)) ≡ entry_of l
slot_read l h = by l.on
  where
    by : (b : Bool) → signed (word (cond b l.switch ((65536 - l.switch) % 65536) % 256) (cond b l.switch ((65536 - l.switch) % 65536) / 256 % 256)) ≡ cond b (pos l.switch) (negsuc (l.switch - 1))
    by true = ap signed (two_bytes l.switch (omega arith)) ∙ signed_below l.switch (omega arith)
    by false =
        let rest : 65535 - (65536 - l.switch) % 65536 ≡ l.switch - 1 = omega arith in
        ap signed (two_bytes ((65536 - l.switch) % 65536) (omega arith)) ∙ signed_above ((65536 - l.switch) % 65536) (omega arith) ∙ ap negsuc rest

pub literal_entry : (l : Literal) → InRange l → literal (entry_of l) ≡ l
literal_entry l h = by l.on
  where
    by : (b : Bool) → literal (cond b (pos l.switch) (negsuc (l.switch - 1))) ≡ record { switch = l.switch; on = b }
    by true = refl
    by false = let e : suc (l.switch - 1) ≡ l.switch = omega arith in ap (λ v. record { switch = v; on = false }) e

entry_filled : (l : Literal) → InRange l → is_empty (entry_of l) ≡ false
entry_filled l h = by l.on
  where
    by : (b : Bool) → is_empty (cond b (pos l.switch) (negsuc (l.switch - 1))) ≡ false
    by true = ne_eqb l.switch 0 (λ e. omega arith)
    by false = refl

-- the entries of k slots: those of the literals, then zeros
abbrev pub padded : ℕ → List Literal → List ℤ
padded zero ls = []
padded (suc k) [] = pos 0 ∷ padded k []
padded (suc k) (l ∷ ls) = entry_of l ∷ padded k ls

entry_behind : (a b : ℕ) (es : List ℕ) (n : ℕ) → entry (a ∷ b ∷ es) (n + 1) ≡ entry es n
entry_behind a b es n =
    let e : 2 * (n + 1) ≡ suc (suc (2 * n)) = omega arith in
    let o : 2 * (n + 1) + 1 ≡ suc (suc (2 * n + 1)) = omega arith in
    ap₂ (λ i j. signed (word (get_or (a ∷ b ∷ es) i 0) (get_or (a ∷ b ∷ es) j 0))) e o

entries_behind : (a b : ℕ) (es : List ℕ) (n k : ℕ) → map (entry (a ∷ b ∷ es)) (range_with_len (n + 1) k) ≡ map (entry es) (range_with_len n k)
entries_behind a b es n zero = refl
entries_behind a b es n (suc k) = ap₂ ◌∷◌ (entry_behind a b es n) (entries_behind a b es (n + 1) k)

pub entries_read : (k : ℕ) (ls : List Literal) (rest : List ℕ) → Each InRange ls → entries_in k (slots k ls ++ rest) ≡ padded k ls
unfolding slots
entries_read zero ls rest h = refl
entries_read (suc k) [] rest h = ap (λ es. pos 0 ∷ es) (entries_behind 0 0 (slots k [] ++ rest) 0 k ∙ entries_read k [] rest tt)
entries_read (suc k) (l ∷ ls) rest h =
    ap₂ ◌∷◌ (slot_read l h.0) (entries_behind (literal_word l % 256) (literal_word l / 256 % 256) (slots k ls ++ rest) 0 k ∙ entries_read k ls rest h.1)

pub used_padded : (k : ℕ) (ls : List Literal) → length ls ≤ k → Each InRange ls → used_slots (padded k ls) ≡ map entry_of ls
used_padded zero [] few h = refl
used_padded zero (l ∷ ls) few h = absurd (omega arith)
used_padded (suc k) [] few h = refl
used_padded (suc k) (l ∷ ls) few h = cond-false _ _ _ (entry_filled l h.0) ∙ ap (λ es. entry_of l ∷ es) (used_padded k ls (omega arith) h.1)

-- no slot is filled behind the literals
none_filled : (k i : ℕ) → filled_from i (padded k []) ≡ None
none_filled zero i = refl
none_filled (suc k) i = none_filled k (i + 1)

none_behind : (k : ℕ) (ls : List Literal) (i : ℕ) → length ls ≤ k → filled_from i (drop (length ls) (padded k ls)) ≡ None
none_behind k [] i few = none_filled k i
none_behind zero (l ∷ ls) i few = absurd (omega arith)
none_behind (suc k) (l ∷ ls) i few = none_behind k ls i (omega arith)

pub gap_padded : (k : ℕ) (ls : List Literal) → length ls ≤ k → Each InRange ls → gap (padded k ls) ≡ None
gap_padded k ls few h =
    let used : length (used_slots (padded k ls)) ≡ length ls = ap length (used_padded k ls few h) ∙ length-map ls entry_of in
    ap (λ u. filled_from u (drop u (padded k ls))) used ∙ none_behind k ls (length ls) few
