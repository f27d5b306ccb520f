-- Equations, parity rules and rows, member by member.
use Rattle.std.proofs.Common.{◌≡◌, ℕ, suc, ◌+◌, ◌-◌, ◌<◌, ◌≤◌, Bool, true, false, not, ◌&&◌, eqb, ◌⊎◌, List, [], ◌∷◌, ◌++◌, length, get_or, take, set, fold, sym, refl, ap, ◌∙◌, inl, inr, arith}
use mathlib.Core.Bool.{beq}
use Rattle.std.proofs.Math.Bool.{and_assoc, and-true, and-false}
use Rattle.std.proofs.lemmas.List.FromFn.{get_or-map-range_with_len}
use Rattle.std.proofs.lemmas.List.{ext_get_or, take_more, get_or-set_same, get_or-set_other}
use Rattle.std.proofs.lemmas.Bool.{cases_eq, eq-eqb, ne_eqb}
use Rattle.rules.specs.declared.literals.Literal.{Literal}
use Rattle.rules.specs.Constraints.{xor}
use Rattle.rules.specs.Lawful.{absent}
use Rattle.parity_theory.specs.Equations.{set_of}
use Rattle.parity_theory.specs.Recovering.{odd_negations}
use Rattle.parity_theory.proofs.Members.{set_length}

-- ---- the set of a rule's switches

absent_push : (v w : ℕ) (vs : List ℕ) → absent v (vs ++ (w ∷ [])) ≡ (absent v vs && not (eqb v w))
absent_push v w [] = and-true (not (eqb v w))
absent_push v w (u ∷ vs) = ap (λ b. not (eqb v u) && b) (absent_push v w vs) ∙ sym (and_assoc (not (eqb v u)) (absent v vs) (not (eqb v w)))

-- the members are the first i switches
abbrev pub Members : List Bool → List ℕ → Type 0
Members members vs = (k : ℕ) → k < 256 → get_or members k false ≡ not (absent (suc k) vs)

pub member_more : (members : List Bool) (vs : List ℕ) (i : ℕ) → length members ≡ 256 → i < length vs → 1 ≤ get_or vs i 0 → get_or vs i 0 ≤ 256 → Members members (take i vs) → Members (set members (get_or vs i 0 - 1) true) (take (i + 1) vs)
member_more members vs i size here low high inv k h =
    by (get_or vs i 0) low high (cases_eq (suc k) (get_or vs i 0))
    ∙ sym (ap (λ l. not (absent (suc k) l)) (take_more vs i 0 here) ∙ ap not (absent_push (suc k) (get_or vs i 0) (take i vs)))
  where
    by : (v : ℕ) → 1 ≤ v → v ≤ 256 → (suc k ≡ v) ⊎ (suc k ≡ v → ⊥) → get_or (set members (v - 1) true) k false ≡ not (absent (suc k) (take i vs) && not (eqb (suc k) v))
    by v l m (inl e) =
        let p : k ≡ v - 1 = omega arith in
        ap (λ j. get_or (set members j true) k false) (sym p)
        ∙ get_or-set_same members k true false (omega arith)
        ∙ sym (ap not (ap (λ b. absent (suc k) (take i vs) && not b) (eq-eqb (suc k) v e) ∙ and-false (absent (suc k) (take i vs))))
    by v l m (inr ne) =
        get_or-set_other members (v - 1) k true false (λ q. ne (omega arith))
        ∙ inv k h
        ∙ sym (ap not (ap (λ b. absent (suc k) (take i vs) && not b) (ne_eqb (suc k) v ne) ∙ and-true (absent (suc k) (take i vs))))

pub members_set : (members : List Bool) (vs : List ℕ) → length members ≡ 256 → Members members vs → members ≡ set_of 256 vs
members_set members vs size inv =
    ext_get_or false members (set_of 256 vs) (size ∙ sym (set_length 256 vs))
    (λ k h. inv k (omega arith) ∙ sym (get_or-map-range_with_len (λ v. not (absent v vs)) 1 256 k (suc k) false (omega arith) (omega arith)))

-- ---- the negations of a clause

-- each negation changes the side
pub odd_folded : (ls : List Literal) (odd : Bool) → fold (λ b (l : Literal). beq b l.on) odd ls ≡ not (xor (not odd) (odd_negations ls))
odd_folded [] true = refl
odd_folded [] false = refl
odd_folded (l ∷ ls) odd = odd_folded ls (beq odd l.on) ∙ by odd l.on (odd_negations ls)
  where
    by : (a b c : Bool) → not (xor (not (beq a b)) c) ≡ not (xor (not a) (xor (not b) c))
    by true true c = refl
    by true false true = refl
    by true false false = refl
    by false true c = refl
    by false false true = refl
    by false false false = refl
