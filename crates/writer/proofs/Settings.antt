-- All settings of a few switches, numbered by patterns, and the records that they give.
use Rattle.std.proofs.Common.{◌≡◌, ℕ, zero, suc, ◌+◌, ◌-◌, ◌*◌, ◌/◌, ◌%◌, ◌^◌, ◌<◌, ◌≤◌, Bool, true, false, cond, eqb, List, [], ◌∷◌, map, length, get_or, take, filter, sym, refl, ap, ◌∙◌, ap₂, add-one, arith, length-append}
use native.Mathlib.Nat.{two-pow-succ}
use lib.ListN.{length-map}
use Rattle.std.specs.List.{range_with_len, flat_map}
use Rattle.std.proofs.lemmas.List.{take_all}
use Rattle.std.proofs.lemmas.List.FromFn.{length-map-range_with_len, get_or-map-range_with_len, map-range_with_len_more, fill_by_all}
use Rattle.std.proofs.lemmas.Nat.{shr-shr, one_shl}
use Rattle.rules.specs.declared.literals.Literal.{Literal}
use Rattle.rules.specs.declared.kinds.Side.{Side}
use Rattle.rules.specs.Constraints.{parity}
use Rattle.parity_theory.specs.Writing.{settings, off_side, against}
use Rattle.parity_theory.proofs.Settings.{with_last, both_ends, settings_by_last}
use Rattle.writer.specs.declared.output.Output.{Output}
use Rattle.writer.specs.Bytes.{record_bytes}
use Rattle.writer.specs.Output.{HasRoom, Puts}
use Rattle.writer.specs.Patterns.{value, values}
use Rattle.writer.specs.Writing.{rule_bytes}
use Rattle.writer.proofs.Puts.{room_next, puts_next}

pub length_settings : (n : ℕ) → length (settings n) ≡ 2 ^ n
length_settings zero = refl
length_settings (suc n) =
    let ih = length_settings n in
    let off = length-map (settings n) (λ s. false ∷ s) in
    let on = length-map (settings n) (λ s. true ∷ s) in
    length-append (map (λ s. false ∷ s) (settings n)) (map (λ s. true ∷ s) (settings n)) ∙ omega (arith, two-pow-succ n)

-- the setting of a pattern, by its last switch
get_or_both_ends : (ss : List (List Bool)) (p : ℕ) → p / 2 < length ss → get_or (both_ends ss) p [] ≡ with_last (eqb (p % 2) 1) (get_or ss (p / 2) [])
get_or_both_ends [] p h = absurd (omega arith)
get_or_both_ends (s ∷ ss) zero h = refl
get_or_both_ends (s ∷ ss) (suc zero) h = refl
get_or_both_ends (s ∷ ss) (suc (suc p)) h =
    let half : suc (suc p) / 2 ≡ suc (p / 2) = omega arith in
    let last : suc (suc p) % 2 ≡ p % 2 = omega arith in
    get_or_both_ends ss p (omega arith) ∙ ap₂ (λ b q. with_last (eqb b 1) (get_or (s ∷ ss) q [])) (sym last) (sym half)

value_more : (w p j : ℕ) → j < w → value (suc w) p j ≡ value w (p / 2) j
value_more w p j h =
    let shift : suc w - 1 - j ≡ 1 + (w - 1 - j) = omega arith in
    ap (λ k. eqb (p / 2 ^ k % 2) 1) shift ∙ ap (λ q. eqb (q % 2) 1) (sym (shr-shr p 1 (w - 1 - j)))

value_last : (w p : ℕ) → value (suc w) p w ≡ eqb (p % 2) 1
value_last w p =
    let shift : suc w - 1 - w ≡ 0 = omega arith in
    let whole : p / 1 ≡ p = omega arith in
    ap (λ k. eqb (p / 2 ^ k % 2) 1) shift ∙ ap (λ q. eqb (q % 2) 1) whole

pub values_last : (w p : ℕ) → values (suc w) p ≡ with_last (eqb (p % 2) 1) (values w (p / 2))
values_last w p =
    let front : map (value (suc w) p) (range_with_len 0 w) ≡ values w (p / 2) =
    fill_by_all (value w (p / 2)) (map (value (suc w) p) (range_with_len 0 w)) w false (length-map-range_with_len (value (suc w) p) 0 w)
    (λ j h. get_or-map-range_with_len (value (suc w) p) 0 w j j false h (omega arith) ∙ value_more w p j h) in
    ap (λ k. map (value (suc w) p) (range_with_len 0 k)) (sym (add-one w)) ∙ map-range_with_len_more (value (suc w) p) 0 w w (omega arith) ∙ ap₂ (λ b bs. with_last b bs) (value_last w p) front

values_at : (w p : ℕ) → p < 2 ^ w → get_or (settings w) p [] ≡ values w p
values_at zero zero h = refl
values_at zero (suc p) h = absurd (omega arith)
values_at (suc w) p h =
    let twice = two-pow-succ w in
    let sized = length_settings w in
    ap (λ ss. get_or ss p []) (settings_by_last w) ∙ get_or_both_ends (settings w) p (omega arith) ∙ ap (with_last (eqb (p % 2) 1)) (values_at w (p / 2) (omega arith)) ∙ sym (values_last w p)

-- the record of the clause for the values bs; none, where they keep the parity rule
abbrev pub clause_bytes : List ℕ → Side → List Bool → List ℕ
clause_bytes vs side bs = cond (off_side side bs) (record_bytes (against vs bs)) []

flat_map_kept : {X Y Z : Type 0} (g : Y → List Z) (h : X → Y) (p : X → Bool) (xs : List X) → flat_map g (map h (filter p xs)) ≡ flat_map (λ x. cond (p x) (g (h x)) []) xs
flat_map_kept g h p [] = refl
flat_map_kept g h p (x ∷ xs) = grind (arith, flat_map_kept g h p xs)

pub parity_bytes : (vs : List ℕ) (side : Side) → flat_map (clause_bytes vs side) (settings (length vs)) ≡ rule_bytes (parity vs side)
parity_bytes vs side = sym (flat_map_kept record_bytes (against vs) (off_side side) (settings (length vs)))

-- the records for the patterns below p, put behind what o has; vs are the switches ws, as the code has them
module _ (vs ws : List ℕ) (side : Side) (same : vs ≡ ws) (few : length ws ≤ 5) (o m : Output) (room : HasRoom (rule_bytes (parity ws side)) o) (p : ℕ) (put : Puts (flat_map (clause_bytes vs side) (take p (settings (length vs)))) o m) where
  all_patterns : 1 * 2 ^ length vs % 2 ^ 64 ≡ 2 ^ length vs
  all_patterns = one_shl (length vs) 64 (omega (arith, ap length same))

  whole : flat_map (clause_bytes vs side) (settings (length vs)) ≡ rule_bytes (parity ws side)
  whole = parity_bytes vs side ∙ ap (λ us. rule_bytes (parity us side)) same

  module _ (below : p < 1 * 2 ^ length vs % 2 ^ 64) where
    pub within : p < 2 ^ length vs
    within = let all = all_patterns in omega arith

    all_room : HasRoom (flat_map (clause_bytes vs side) (settings (length vs))) o
    all_room = rw whole room

    -- what is put for the pattern p, which breaks the rule or does not
    bytes_of : (b : Bool) → b ≡ off_side side (values (length vs) p) → clause_bytes vs side (get_or (settings (length vs)) p []) ≡ cond b (record_bytes (against vs (values (length vs) p))) []
    bytes_of b e = ap (clause_bytes vs side) (values_at (length vs) p within) ∙ ap (λ c. cond c (record_bytes (against vs (values (length vs) p))) []) (sym e)

    pub pattern_room : (ls : List Literal) → ls ≡ against vs (values (length vs) p) → true ≡ off_side side (values (length vs) p) → HasRoom (record_bytes ls) m
    pattern_room ls is e =
        let sized = length_settings (length vs) in
        let at = within in
        let here = room_next (clause_bytes vs side) (settings (length vs)) p [] o m all_room put (omega arith) in
        rw is (rw (bytes_of true e) at here)

    pub pattern_put : (b : Bool) (n : Output) → b ≡ off_side side (values (length vs) p) → Puts (cond b (record_bytes (against vs (values (length vs) p))) []) m n → Puts (flat_map (clause_bytes vs side) (take (p + 1) (settings (length vs)))) o n
    pattern_put b n e more =
        let sized = length_settings (length vs) in
        let at = within in
        puts_next (clause_bytes vs side) (settings (length vs)) p [] o m all_room put (omega arith) n (rw (bytes_of b e) more)

  pub patterns_put : 1 * 2 ^ length vs % 2 ^ 64 ≤ p → Puts (rule_bytes (parity ws side)) o m
  patterns_put past =
      let sized = length_settings (length vs) in
      let all = all_patterns in
      rw (take_all p (settings (length vs)) (omega arith), whole) at put
