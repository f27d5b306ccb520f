-- Sums of equations, switch by switch.
use Rattle.std.proofs.Common.{◌≡◌, ℕ, zero, suc, Bool, true, false, ◌&&◌, List, [], ◌∷◌, sym, refl, arith}
use Rattle.rules.specs.Settings.{Setting}
use Rattle.rules.specs.Constraints.{xor, same}
use Rattle.parity_theory.specs.Equations.{has, difference, odd_in, Equation, plus, satisfies}

pub xor_false : (a : Bool) → xor a false ≡ a
xor_false true = refl
xor_false false = refl

pub xor_assoc : (a b c : Bool) → xor a (xor b c) ≡ xor (xor a b) c
xor_assoc a b c = grind arith

pub difference_has : (a b : List Bool) (v : ℕ) → has (difference a b) v ≡ xor (has a v) (has b v)
difference_has a b zero = refl
difference_has [] b (suc v) = refl
difference_has (x ∷ a) [] (suc v) = sym (xor_false (has (x ∷ a) (suc v)))
difference_has (x ∷ a) (y ∷ b) (suc zero) = refl
difference_has (x ∷ a) (y ∷ b) (suc (suc v)) = difference_has a b (suc v)

regroup : (a b c d e : Bool) → xor (xor a b && c) (xor d e) ≡ xor (xor (a && c) d) (xor (b && c) e)
regroup a b c d e = grind arith

pub odd_in_difference : (n : ℕ) (a b : List Bool) (s : Setting) → odd_in n (difference a b) s ≡ xor (odd_in n a s) (odd_in n b s)
odd_in_difference zero a b s = refl
odd_in_difference (suc n) a b s = rw (difference_has a b (suc n), odd_in_difference n a b s) (regroup (has a (suc n)) (has b (suc n)) (s (suc n)) (odd_in n a s) (odd_in n b s))

same_sum : (a b c d : Bool) → same d c ≡ true → same (xor b d) (xor a c) ≡ same b a
same_sum a b c d h = grind arith

pub satisfies_plus : (n : ℕ) (s : Setting) (e x : Equation) → satisfies n s x ≡ true → satisfies n s (plus e x) ≡ satisfies n s e
satisfies_plus n s e x h =
    rw (odd_in_difference n e.members x.members s) (same_sum (odd_in n e.members s) e.odd (odd_in n x.members s) x.odd h)

-- the sum over a set that has none of the switches
pub odd_in_none : (n : ℕ) (set : List Bool) (s : Setting) → ((v : ℕ) → has set v ≡ false) → odd_in n set s ≡ false
odd_in_none zero set s h = refl
odd_in_none (suc n) set s h = rw (h (suc n)) (odd_in_none n set s h)
