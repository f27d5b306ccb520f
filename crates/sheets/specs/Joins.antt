-- Lemmas for the law of a pair: two sheets, one after the other.
use Rattle.std.specs.Prelude.{◌≡◌, ℕ, ◌≤◌, max, Bool, true, List, [], ◌∷◌, ◌++◌, length, refl}
use Rattle.std.proofs.Common.{arith, length-append}
use Rattle.std.proofs.lemmas.Bool.{and_parts, and_from, cond_both, leb-true}
use Rattle.std.proofs.lemmas.Bool.Decides.{nat_tests}
use Rattle.rules.specs.First.{every}
use Rattle.rules.specs.Constraints.{Constraint, kind, switches}
use Rattle.rules.specs.Lawful.{lawful, width_fits, inside}
use Rattle.sheets.specs.Meaning.{Meaning, LawfulSheet, blank}
use Rattle.sheets.specs.Piles.{joined_sheets, is_short, paired}
use Rattle.sheets.specs.Shifts.{blank_lawful}

every_weaker : {X : Type 0} (t u : X → Bool) → ((x : X) → t x ≡ true → u x ≡ true) → (xs : List X) → every t xs ≡ true → every u xs ≡ true
every_weaker t u imp [] h = refl
every_weaker t u imp (x ∷ xs) h =
    let a = and_parts (t x) (every t xs) h in
    and_from (u x) _ (imp x a.0) (every_weaker t u imp xs a.1)

every_append : {X : Type 0} (t : X → Bool) (xs ys : List X) → every t xs ≡ true → every t ys ≡ true → every t (xs ++ ys) ≡ true
every_append t [] ys h k = k
every_append t (x ∷ xs) ys h k =
    let a = and_parts (t x) (every t xs) h in
    and_from (t x) _ a.0 (every_append t xs ys a.1 k)

lawful_wider : (n k : ℕ) → n ≤ k → (r : Constraint) → lawful n r ≡ true → lawful k r ≡ true
lawful_wider n k le r h =
    let a = and_parts (width_fits (kind r) (length (switches r))) _ h in
    let b = and_parts (every (inside n) (switches r)) _ a.1 in
    let one : (v : ℕ) → inside n v ≡ true → inside k v ≡ true = λ v e. grind (arith, nat_tests) in
    and_from (width_fits (kind r) (length (switches r))) _ a.0 (and_from (every (inside k) (switches r)) _ (every_weaker (inside n) (inside k) one (switches r) b.0) b.1)

pub paired_lawful : (a b : Meaning) → LawfulSheet a → LawfulSheet b → LawfulSheet (paired a b)
paired_lawful a b v w = cond_both (is_short a b) (joined_sheets a b) blank LawfulSheet full (λ _. blank_lawful)
  where
    full : is_short a b ≡ true → LawfulSheet (joined_sheets a b)
    full e =
        let n = max a.switches b.switches in
        record {
          narrow = omega (arith, v.narrow, w.narrow);
          short = simp length-append (omega (arith, leb-true _ _ e));
          sound = every_append (lawful n) a.rules b.rules
              (every_weaker (lawful a.switches) (lawful n) (lawful_wider a.switches n (omega arith)) a.rules v.sound)
              (every_weaker (lawful b.switches) (lawful n) (lawful_wider b.switches n (omega arith)) b.rules w.sound);
        }
