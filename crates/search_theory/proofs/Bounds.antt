-- The bound on tries: each try goes on in the binary tree of tries, which is as deep as there are free switches.
use Rattle.std.proofs.Common.{◌≡◌, ℕ, suc, ◌+◌, ◌-◌, ◌*◌, ◌^◌, ◌<◌, ◌≤◌, Bool, true, false, cond, List, [], ◌∷◌, length, Some, arith, pow_pos}
use Rattle.rules.specs.declared.literals.Literal.{Literal}
use Rattle.rules.specs.Constraints.{Constraint, positive}
use Rattle.rules.specs.Rows.{free, tally}
use Rattle.search_theory.specs.Tries.{part, turn, due, step, Reach, start, more, Proper, limit}
use Rattle.search_theory.proofs.Stacks.{Follows, turned, tried, step_follows, reach_proper, stack_free}

-- how much a try adds at depth d of a tree of depth f: 1 at off, and at on what the tree below off holds, and 1
abbrev weight : ℕ → ℕ → Bool → ℕ
weight f d false = 1
weight f d true = 2 ^ (f - d)

-- the place of a stack, in the order in which a search may come to stacks
abbrev place : ℕ → List Literal → ℕ
place f [] = 0
place f (l ∷ ts) = place f ts + weight f (length ts) l.on

pow_step : (f d : ℕ) → d ≤ f → 2 ^ (f + 1 - d) ≡ 2 * 2 ^ (f - d)
pow_step f d h =
    let e : f + 1 - d ≡ suc (f - d) = omega arith in
    rw e (omega arith)

weight_most : (f d : ℕ) (b : Bool) → weight f d b ≤ 2 ^ (f - d)
weight_most f d true = omega arith
weight_most f d false = let one = pow_pos (f - d) in omega arith

-- the last place is 2 ^ (f + 1) - 2
place_last : (f : ℕ) (ts : List Literal) → length ts ≤ f → place f ts + 2 ^ (f + 1 - length ts) ≤ 2 ^ (f + 1)
place_last f [] h = let e : f + 1 - 0 ≡ f + 1 = omega arith in rw e (omega arith)
place_last f (l ∷ ts) h =
    let ih = place_last f ts (omega arith) in
    let e = pow_step f (length ts) (omega arith) in
    let w = weight_most f (length ts) l.on in
    let g : f + 1 - suc (length ts) ≡ f - length ts = omega arith in
    rw g (omega arith)

-- a turn goes past all that is below the stack
turn_place : (f : ℕ) (ts us : List Literal) → turn ts ≡ Some us → length ts ≤ f → place f ts + 2 ^ (f + 1 - length ts) ≤ place f us + 1
turn_place f [] us t h = let z : ◌≡◌ {A = ℕ} 0 1 = cc in absurd (omega arith)
turn_place f (l ∷ ts) us t h = by (λ g. turn_place f ts us g (omega arith)) l.on t
  where
    by : (turn ts ≡ Some us → place f ts + 2 ^ (f + 1 - length ts) ≤ place f us + 1) → (b : Bool) → cond b (turn ts) (Some (positive l.switch ∷ ts)) ≡ Some us → place f ts + weight f (length ts) b + 2 ^ (f + 1 - suc (length ts)) ≤ place f us + 1
    by ih true t =
        let up = ih t in
        let e = pow_step f (length ts) (omega arith) in
        let g : f + 1 - suc (length ts) ≡ f - length ts = omega arith in
        rw g (omega arith)
    by ih false t =
        let e : positive l.switch ∷ ts ≡ us = cc in
        let g : f + 1 - suc (length ts) ≡ f - length ts = omega arith in
        rw (g, ← e) (omega arith)

module _ (n : ℕ) (system : List Constraint) where
  -- a stack is no deeper than there are free switches
  pub stack_depth : (ts : List Literal) → Proper n system ts → length ts ≤ tally (free system) n
  stack_depth ts p = omega (arith, stack_free n system ts p)

  step_place : (ts us : List Literal) → Follows n system ts (part n system ts) (due us) → Proper n system ts → place (tally (free system) n) ts < place (tally (free system) n) us
  step_place ts us (turned d t) p =
      let f = tally (free system) n in
      let h = stack_depth ts p in
      let m = turn_place f ts us t h in
      let e = pow_step f (length ts) h in
      let one = pow_pos (f - length ts) in
      omega arith
  step_place ts us (tried v d l e) p = rw (← e) (omega arith)

  reach_place : (k : ℕ) (ts : List Literal) → Reach n system k ts → k ≤ place (tally (free system) n) ts
  reach_place k ts start = omega arith
  reach_place k ts (more {k = j} {ts = us} r e) =
      let ih = reach_place j us r in
      let m = step_place us ts (step_follows n system us (part n system us) (due ts) e) (reach_proper n system j us r) in
      omega arith

  pub reach_most : (k : ℕ) (ts : List Literal) → Reach n system k ts → k ≤ limit n system
  reach_most k ts r =
      let f = tally (free system) n in
      let h = stack_depth ts (reach_proper n system k ts r) in
      let last = place_last f ts h in
      let m = reach_place k ts r in
      let e = pow_step f (length ts) h in
      let one = pow_pos (f - length ts) in
      omega arith

  pub due_fewer : (k : ℕ) (ts us : List Literal) → Reach n system k ts → step n system ts ≡ due us → k < limit n system
  due_fewer k ts us r e = let m = reach_most (suc k) us (more r e) in omega arith
