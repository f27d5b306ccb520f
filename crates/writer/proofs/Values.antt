-- The values of a pattern, and the clause against it.
use Rattle.std.proofs.Common.{◌≡◌, ℕ, zero, suc, ◌+◌, ◌/◌, ◌%◌, ◌^◌, ◌<◌, Bool, false, not, eqb, List, [], ◌∷◌, ◌++◌, length, get_or, take, sym, refl, ap, ◌∙◌, arith}
use native.Mathlib.Nat.{two-pow-succ}
use lib.Count.{ones, ones_in, ones_step}
use Rattle.std.proofs.lemmas.Bool.Decides.{nat_tests}
use Rattle.std.proofs.lemmas.List.{take_more}
use Rattle.std.proofs.lemmas.List.FromFn.{length-map-range_with_len, get_or-map-range_with_len}
use Rattle.rules.specs.declared.literals.Literal.{Literal}
use Rattle.rules.specs.Constraints.{xor}
use Rattle.parity_theory.specs.Writing.{odd_number, against}
use Rattle.parity_theory.proofs.Settings.{with_last}
use Rattle.parity_theory.proofs.Sums.{xor_assoc, xor_false}
use Rattle.writer.specs.Patterns.{value, values}
use Rattle.writer.proofs.Settings.{values_last}

-- one switch more
odd_last : (bs : List Bool) (b : Bool) → odd_number (with_last b bs) ≡ xor (odd_number bs) b
odd_last [] b = xor_false b
odd_last (a ∷ bs) b = ap (xor a) (odd_last bs b) ∙ xor_assoc a (odd_number bs) b

odd_sum : (a s : ℕ) → s < 2 → xor (eqb (a % 2) 1) (eqb s 1) ≡ eqb ((s + a) % 2) 1
odd_sum a s h = grind (arith, nat_tests)

-- an odd number of the switches is on where the pattern has an odd number of ones
pub odd_ones : (w p : ℕ) → p < 2 ^ w → odd_number (values w p) ≡ eqb (ones p % 2) 1
unfolding ones ones_in
odd_ones zero zero h = refl
odd_ones zero (suc p) h = absurd (omega arith)
odd_ones (suc w) p h =
    let twice = two-pow-succ w in
    ap odd_number (values_last w p) ∙ odd_last (values w (p / 2)) (eqb (p % 2) 1) ∙ ap (λ b. xor b (eqb (p % 2) 1)) (odd_ones w (p / 2) (omega arith))
    ∙ odd_sum (ones (p / 2)) (p % 2) (omega arith)
    ∙ ap (λ n. eqb (n % 2) 1) (sym (ones_step p))

length_against : (vs : List ℕ) (bs : List Bool) → length bs ≡ length vs → length (against vs bs) ≡ length vs
length_against [] bs h = refl
length_against (v ∷ vs) [] h = absurd (omega arith)
length_against (v ∷ vs) (b ∷ bs) h = ap suc (length_against vs bs (omega arith))

get_or_against : (vs : List ℕ) (bs : List Bool) (j : ℕ) (d : Literal) → length bs ≡ length vs → j < length vs → get_or (against vs bs) j d ≡ record { switch = get_or vs j 0; on = not (get_or bs j false) }
get_or_against [] bs j d h lt = absurd (omega arith)
get_or_against (v ∷ vs) [] j d h lt = absurd (omega arith)
get_or_against (v ∷ vs) (b ∷ bs) zero d h lt = refl
get_or_against (v ∷ vs) (b ∷ bs) (suc j) d h lt = get_or_against vs bs j d (omega arith) (omega arith)

-- the clause against the pattern p, literal by literal
module _ (vs : List ℕ) (p : ℕ) where
  abbrev pub whole : List Literal
  whole = against vs (values (length vs) p)

  sized : length (values (length vs) p) ≡ length vs
  sized = length-map-range_with_len (value (length vs) p) 0 (length vs)

  pub length_whole : length whole ≡ length vs
  length_whole = length_against vs (values (length vs) p) sized

  pub against_more : (j : ℕ) (bit : Bool) (old new : List Literal) → j < length vs → bit ≡ value (length vs) p j → old ≡ take j whole → new ≡ old ++ record { switch = get_or vs j 0; on = not bit } ∷ [] → new ≡ take (j + 1) whole
  against_more j bit old new h e before more =
      let long = length_whole in
      let l : Literal = record { switch = get_or vs j 0; on = not bit } in
      let at : get_or (values (length vs) p) j false ≡ bit = get_or-map-range_with_len (value (length vs) p) 0 (length vs) j j false h (omega arith) ∙ sym e in
      let here : get_or whole j l ≡ l = get_or_against vs (values (length vs) p) j l sized h ∙ ap (λ b. record { switch = get_or vs j 0; on = not b }) at in
      more ∙ (λ t. before t ++ sym here t ∷ []) ∙ sym (take_more whole j l (omega arith))
