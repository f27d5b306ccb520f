-- Settings by their place among all settings of a list of switches.
use Rattle.std.proofs.Common.{◌≡◌, ℕ, zero, suc, ◌+◌, ◌*◌, ◌/◌, ◌%◌, ◌^◌, ◌<◌, Bool, true, false, eqb, List, [], ◌∷◌, length, sym, refl, ap, ◌∙◌, ap₂, inl, inr, pow-suc, arith}
use lib.Count.{ones, ones_step}
use Rattle.std.proofs.lemmas.Bool.{cases_eq, eq-eqb, ne_eqb}
use Rattle.std.proofs.lemmas.Bool.Decides.{nat_tests}
use Rattle.rules.specs.Constraints.{xor}
use Rattle.rules.specs.Rows.{bit}
use Rattle.parity_theory.specs.Writing.{odd_number}
use Rattle.parity.specs.Places.{place}

bit_odd : (b : Bool) → eqb (bit b) 1 ≡ b
bit_odd true = refl
bit_odd false = refl

pub bit_equal : (b c : Bool) → bit b ≡ bit c → b ≡ c
bit_equal b c h = sym (bit_odd b) ∙ ap (λ k. eqb k 1) h ∙ bit_odd c

pub bit_small : (b : Bool) → bit b < 2
bit_small true = omega arith
bit_small false = omega arith

pub place_below : (bs : List Bool) → place bs < 2 ^ length bs
place_below [] = omega arith
place_below (b ∷ bs) = rw (pow-suc 2 (length bs)) (omega (arith, place_below bs, bit_small b))

-- an odd number of ones is an odd number of values that are on
odd_more : (b : Bool) (n : ℕ) → eqb ((bit b + n) % 2) 1 ≡ xor b (eqb (n % 2) 1)
odd_more true n = grind (arith, nat_tests)
odd_more false n = ap (λ k. eqb (k % 2) 1) (omega arith)

pub place_odd : (bs : List Bool) → eqb (ones (place bs) % 2) 1 ≡ odd_number bs
unfolding ones
place_odd [] = refl
place_odd (b ∷ bs) =
    let low : (2 * place bs + bit b) % 2 ≡ bit b = omega (arith, bit_small b) in
    let high : (2 * place bs + bit b) / 2 ≡ place bs = omega (arith, bit_small b) in
    ap (λ k. eqb (k % 2) 1) (ones_step (2 * place bs + bit b) ∙ ap₂ (λ m q. m + ones q) low high)
    ∙ odd_more b (ones (place bs))
    ∙ ap (xor b) (place_odd bs)

-- the values at a place
unfoldable pub values_at : ℕ → ℕ → List Bool
values_at zero k = []
values_at (suc w) k = eqb (k % 2) 1 ∷ values_at w (k / 2)

pub values_length : (w k : ℕ) → length (values_at w k) ≡ w
unfolding values_at
values_length zero k = refl
values_length (suc w) k = ap suc (values_length w (k / 2))

odd_bit : (m : ℕ) → m < 2 → bit (eqb m 1) ≡ m
odd_bit m h = elim (cases_eq m 1) [ inl e ↦ ap bit (eq-eqb m 1 e) ∙ sym e | inr ne ↦ ap bit (ne_eqb m 1 ne) ∙ omega arith ]

pub place_values : (w k : ℕ) → k < 2 ^ w → place (values_at w k) ≡ k
unfolding values_at
place_values zero k h = omega arith
place_values (suc w) k h =
    let p = pow-suc 2 w in
    omega (arith, place_values w (k / 2) (omega arith), odd_bit (k % 2) (omega arith))
