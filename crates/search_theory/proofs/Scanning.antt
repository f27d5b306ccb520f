-- One rule read from its first literal or switch to the last.
use Rattle.std.proofs.Common.{◌≡◌, ℕ, Bool, false, not, List, [], ◌∷◌, Some, None, Option, arith}
use Rattle.std.specs.Option.{option_map}
use Rattle.std.specs.Bool.{then_some}
use Rattle.rules.specs.declared.literals.Literal.{Literal}
use Rattle.rules.specs.declared.kinds.Side.{Side}
use Rattle.rules.specs.Constraints.{clause, parity, xor}
use Rattle.search_theory.specs.Parts.{Part, maybe}
use Rattle.search_theory.specs.Forcing.{all_broken, last_literal, parity_at, last_switch, says, dead}

-- the clause ls was read up to `left`: all literals before are broken but for the one that is told, which is unset
abbrev pub Read : Part → List Literal → Option Literal → List Literal → Type 0
Read p ls None left = (dead p (clause ls) ≡ all_broken p left) × (says p (clause ls) ≡ last_literal p left)
Read p ls (Some l) left = (dead p (clause ls) ≡ false) × (says p (clause ls) ≡ then_some (all_broken p left) l)

module _ (p : Part) (ls : List Literal) (l : Literal) (left : List Literal) where
  pub read_broken : (o : Option Literal) → p l.switch ≡ Some (not l.on) → Read p ls o (l ∷ left) → Read p ls o left
  read_broken None e r = let r0 = r.0 in let r1 = r.1 in (grind arith, grind arith)
  read_broken (Some m) e r = let r0 = r.0 in let r1 = r.1 in (grind arith, grind arith)

  pub read_kept : (o : Option Literal) → p l.switch ≡ Some l.on → Read p ls o (l ∷ left) → (dead p (clause ls) ≡ false) × (says p (clause ls) ≡ None)
  read_kept None e r = let r0 = r.0 in let r1 = r.1 in (grind arith, grind arith)
  read_kept (Some m) e r = let r0 = r.0 in let r1 = r.1 in (grind arith, grind arith)

  pub read_unset : p l.switch ≡ None → Read p ls None (l ∷ left) → Read p ls (Some l) left
  read_unset e r = let r0 = r.0 in let r1 = r.1 in (grind arith, grind arith)

  pub read_second : (m : Literal) → p l.switch ≡ None → Read p ls (Some m) (l ∷ left) → (dead p (clause ls) ≡ false) × (says p (clause ls) ≡ None)
  read_second m e r = let r0 = r.0 in let r1 = r.1 in (grind arith, grind arith)

-- the parity rule vs was read up to `left`: all switches before are set but for the one that is told;
-- odd: whether an odd number of those left, and of that one, must be on
abbrev pub Counted : Part → List ℕ → Side → Option ℕ → Bool → List ℕ → Type 0
Counted p vs side None odd left = (dead p (parity vs side) ≡ maybe (parity_at p left) false (xor odd)) × (says p (parity vs side) ≡ last_switch p odd left)
Counted p vs side (Some v) odd left = (dead p (parity vs side) ≡ false) × (says p (parity vs side) ≡ option_map (λ y. record { switch = v; on = xor odd y }) (parity_at p left))

module _ (p : Part) (vs : List ℕ) (side : Side) (v : ℕ) (left : List ℕ) where
  pub counted_set : (o : Option ℕ) (odd x : Bool) → p v ≡ Some x → Counted p vs side o odd (v ∷ left) → Counted p vs side o (xor odd x) left
  counted_set None odd x e r = let r0 = r.0 in let r1 = r.1 in (grind arith, grind arith)
  counted_set (Some w) odd x e r = let r0 = r.0 in let r1 = r.1 in (grind arith, grind arith)

  pub counted_unset : (odd : Bool) → p v ≡ None → Counted p vs side None odd (v ∷ left) → Counted p vs side (Some v) odd left
  counted_unset odd e r = let r0 = r.0 in let r1 = r.1 in (grind arith, grind arith)

  pub counted_second : (w : ℕ) (odd : Bool) → p v ≡ None → Counted p vs side (Some w) odd (v ∷ left) → (dead p (parity vs side) ≡ false) × (says p (parity vs side) ≡ None)
  counted_second w odd e r = let r0 = r.0 in let r1 = r.1 in (grind arith, grind arith)

-- at the end of a parity rule with one unset switch
pub counted_forces : (p : Part) (vs : List ℕ) (side : Side) (v : ℕ) (odd : Bool) → Counted p vs side (Some v) odd [] → says p (parity vs side) ≡ Some (record { switch = v; on = odd })
counted_forces p vs side v odd r =
    let r1 = r.1 in
    let same : xor odd false ≡ odd = grind arith in
    grind arith
