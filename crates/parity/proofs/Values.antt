-- The values that break a clause, switch by switch, as they are looked for.
use Rattle.std.proofs.Common.{◌≡◌, ℕ, zero, suc, ◌^◌, ◌<◌, ◌≤◌, Bool, true, false, cond, not, eqb, List, [], ◌∷◌, length, get_or, Some, None, Option, option_map, find, ◌-◌, reverse, sym, refl, ap, ◌∙◌, inl, inr, arith, pow_mono}
use denote.Ref.{Bor}
use mir.Val.{bool_byte}
use Rattle.std.proofs.lemmas.List.{get_or-reverse}
use Rattle.std.proofs.lemmas.Bool.{cases_Bool, cond-true, cond-false, eq-eqb}
use Rattle.rules.specs.declared.literals.Literal.{Literal}
use Rattle.rules.specs.Constraints.{clause}
use Rattle.rules.specs.Rows.{bit}
use Rattle.parity.specs.Places.{breaking_value, with_value, values_place, breaking_place}
use Rattle.parity.proofs.Breaking.{values_below}

-- a value that breaks a clause is that of the first literal on the switch
pub breaking_found : (r : Option (Bor Literal)) (ls : List Literal) (v : ℕ) → option_map (λ y. y.now) r ≡ find (λ (l : Literal). eqb l.switch v) ls → option_map (λ y. not y.now.on) r ≡ breaking_value ls v
breaking_found r ls v h = compose r ∙ ap (option_map (λ (l : Literal). not l.on)) h ∙ value ls
  where
    compose : (o : Option (Bor Literal)) → option_map (λ y. not y.now.on) o ≡ option_map (λ (l : Literal). not l.on) (option_map (λ y. y.now) o)
    compose None = refl
    compose (Some y) = refl

    value : (ms : List Literal) → option_map (λ (l : Literal). not l.on) (find (λ (l : Literal). eqb l.switch v) ms) ≡ breaking_value ms v
    value [] = refl
    value (m ∷ ms) = by (eqb m.switch v) (value ms)
      where
        by : (t : Bool) → option_map (λ (l : Literal). not l.on) (find (λ (l : Literal). eqb l.switch v) ms) ≡ breaking_value ms v → option_map (λ (l : Literal). not l.on) (cond t (Some m) (find (λ (l : Literal). eqb l.switch v) ms)) ≡ cond t (Some (not m.on)) (breaking_value ms v)
        by true ih = refl
        by false ih = ih

-- one switch that the clause lacks
with_none : (o : Option Bool) → with_value o None ≡ None
with_none None = refl
with_none (Some b) = refl

pub values_absent : (ls : List Literal) (vs : List ℕ) (i : ℕ) → i < length vs → breaking_value ls (get_or vs i 0) ≡ None → values_place ls vs ≡ None
values_absent ls [] i l h = absurd (omega arith)
values_absent ls (v ∷ vs) zero l h = ap (λ o. with_value o (values_place ls vs)) h
values_absent ls (v ∷ vs) (suc i) l h = ap (with_value (breaking_value ls v)) (values_absent ls vs i (omega arith) h) ∙ with_none (breaking_value ls v)

-- the place of values, from the last switch to the first
module _ (ls : List Literal) (vs : List ℕ) where
  pub place_found : (o : Option ℕ) → length ls ≡ length vs → values_place ls vs ≡ o → o ≡ breaking_place vs (clause ls)
  place_found o e h = sym (cond-true _ _ _ (eq-eqb (length ls) (length vs) e) ∙ h)

  -- a switch, counted from the last, that the clause lacks
  pub place_absent : (i : ℕ) → i < length vs → None ≡ breaking_value ls (get_or (reverse vs) i 0) → values_place ls vs ≡ None
  place_absent i l h = values_absent ls vs (length vs - 1 - i) (omega arith) (ap (breaking_value ls) (sym (get_or-reverse vs i 0 l)) ∙ sym h)

-- a place is an index of the marks
pub small_place : (ls : List Literal) (vs : List ℕ) (p : ℕ) → length vs ≤ 5 → values_place ls vs ≡ Some p → p < 32
small_place ls vs p l h = let m : 2 ^ (length vs) ≤ 2 ^ 5 = pow_mono {i = length vs} {j = 5} l in omega (arith, values_below ls vs p h)

pub small_breaking : (ls : List Literal) (vs : List ℕ) (p : ℕ) → length vs ≤ 5 → Some p ≡ breaking_place vs (clause ls) → p < 32
small_breaking ls vs p l h =
    elim (cases_Bool (eqb (length ls) (length vs))) [
      | inl e ↦ small_place ls vs p l (sym (h ∙ cond-true _ (values_place ls vs) None e))
      | inr e ↦ (let z : ◌≡◌ {A = ℕ} 0 1 = cc (h ∙ cond-false _ (values_place ls vs) None e) in absurd (omega arith))
    ]

pub byte_bit : (b : Bool) → bool_byte b ≡ bit b
byte_bit true = refl
byte_bit false = refl
