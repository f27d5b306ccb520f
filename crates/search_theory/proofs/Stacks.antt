-- Stacks of tries: what a step does to them, and that they are proper.
use Rattle.std.proofs.Common.{◌≡◌, ℕ, ◌+◌, ◌<◌, ◌≤◌, Bool, true, false, cond, not, List, [], ◌∷◌, length, is_some, Some, None, Option, refl, ap, ◌∙◌, subst, arith}
use Rattle.std.proofs.lemmas.Bool.{cond-true, cond-false}
use Rattle.rules.specs.declared.literals.Literal.{Literal}
use Rattle.rules.specs.Settings.{Within}
use Rattle.rules.specs.Constraints.{Constraint, positive}
use Rattle.rules.specs.Rows.{free, tally}
use Rattle.search_theory.specs.Parts.{Part, blank, put, Extends, unset, maybe}
use Rattle.search_theory.specs.Forcing.{any_dead, forced, Still, Lies, Ended, Alike, Over}
use Rattle.search_theory.specs.Tries.{part, turn, negative, lowest, is_open, values, Course, found, nothing, due, step_from, Reach, start, more, Proper}
use Rattle.search_theory.proofs.Switches.{lowest_some, tally_le, tally_less, tally_most, unset_le, unset_put}
use Rattle.search_theory.proofs.Forcing.{extends_trans, extends_put, put_has, forced_lies, forced_ends, ended_still, ends_forced}

-- the four things that may hold after forcing; where they are known, the step is known
module _ (n : ℕ) (system : List Constraint) (ts : List Literal) (p : Part) where
  pub step_turn : any_dead p system ≡ true → (o : Option (List Literal)) → turn ts ≡ o → step_from n system ts p ≡ maybe o nothing due
  step_turn d o t = cond-true (any_dead p system) (maybe (turn ts) nothing due) _ d ∙ ap (λ x. maybe x nothing due) t

  pub step_try : any_dead p system ≡ false → (o : Option ℕ) → lowest (is_open system p) n ≡ o → step_from n system ts p ≡ maybe o (found (values n p)) (λ v. due (negative v ∷ ts))
  step_try d o l = cond-false (any_dead p system) _ (maybe (lowest (is_open system p) n) (found (values n p)) (λ v. due (negative v ∷ ts))) d ∙ ap (λ x. maybe x (found (values n p)) (λ v. due (negative v ∷ ts))) l

  -- and where the step is known, so is which of them holds
  pub data Follows : Course → Type 0 where
    turned : {us : List Literal} → any_dead p system ≡ true → turn ts ≡ Some us → Follows (due us)
    stuck : any_dead p system ≡ true → turn ts ≡ None → Follows nothing
    tried : {us : List Literal} (v : ℕ) → any_dead p system ≡ false → lowest (is_open system p) n ≡ Some v → negative v ∷ ts ≡ us → Follows (due us)
    finished : {s : List Bool} → any_dead p system ≡ false → lowest (is_open system p) n ≡ None → values n p ≡ s → Follows (found s)

  pub step_follows : (c : Course) → step_from n system ts p ≡ c → Follows c
  step_follows c e = subst Follows e (by_dead (any_dead p system) refl)
    where
      by_turn : any_dead p system ≡ true → (o : Option (List Literal)) → turn ts ≡ o → Follows (maybe o nothing due)
      by_turn d None t = stuck d t
      by_turn d (Some us) t = turned d t

      by_try : any_dead p system ≡ false → (o : Option ℕ) → lowest (is_open system p) n ≡ o → Follows (maybe o (found (values n p)) (λ v. due (negative v ∷ ts)))
      by_try d None l = finished d l refl
      by_try d (Some v) l = tried v d l refl

      by_dead : (b : Bool) → any_dead p system ≡ b → Follows (cond b (maybe (turn ts) nothing due) (maybe (lowest (is_open system p) n) (found (values n p)) (λ v. due (negative v ∷ ts))))
      by_dead true d = by_turn d (turn ts) refl
      by_dead false d = by_try d (lowest (is_open system p) n) refl

-- the lowest open switch is one of the n, and is unset
pub lowest_open : (n : ℕ) (system : List Constraint) (p : Part) (v : ℕ) → lowest (is_open system p) n ≡ Some v → Within n v × (p v ≡ None)
lowest_open n system p v h =
    let low = lowest_some (is_open system p) n v h in
    let open-v = low.passes in
    (low.within, grind arith)

-- where the latest try stands
pub turn_on : (l : Literal) (ts : List Literal) → l.on ≡ true → turn (l ∷ ts) ≡ turn ts
turn_on l ts on = ap (λ b. cond b (turn ts) (Some (positive l.switch ∷ ts))) on

pub turn_off : (l : Literal) (ts : List Literal) → l.on ≡ false → turn (l ∷ ts) ≡ Some (positive l.switch ∷ ts)
turn_off l ts off = ap (λ b. cond b (turn ts) (Some (positive l.switch ∷ ts))) off

module _ (n : ℕ) (system : List Constraint) where
  -- a try extends the part-setting before it
  pub part_extends : (l : Literal) (ts : List Literal) → part n system ts l.switch ≡ None → Extends (part n system ts) (part n system (l ∷ ts))
  part_extends l ts u =
      extends_trans (part n system ts) (put (part n system ts) l) (part n system (l ∷ ts)) (extends_put (part n system ts) l u) (forced_lies n system (put (part n system ts) l)).above

  -- and has its literal
  pub part_has : (l : Literal) (ts : List Literal) → part n system (l ∷ ts) l.switch ≡ Some l.on
  part_has l ts = (forced_lies n system (put (part n system ts) l)).above l.switch l.on (put_has (part n system ts) l)

  part_ends : Over n system → (ts : List Literal) → Ended system (part n system ts)
  part_ends o [] = forced_ends n system o blank
  part_ends o (l ∷ ts) = forced_ends n system o (put (part n system ts) l)

  pub part_still : Over n system → (ts : List Literal) → any_dead (part n system ts) system ≡ false → Still system (part n system ts)
  part_still o ts d = ended_still system (part n system ts) d (part_ends o ts)

  -- forcing after a try, in whatever way it goes, ends as the part-setting of the longer stack
  pub part_tried : Over n system → (l : Literal) (ts : List Literal) (p q : Part) → p ≡ put (part n system ts) l → Lies system p q → Ended system q → Alike system q (part n system (l ∷ ts))
  part_tried o l ts p q is lies e = subst (λ x. Alike system q (forced n system x)) is (ends_forced n system o p q lies e)

  pub turn_proper : (ts us : List Literal) → turn ts ≡ Some us → Proper n system ts → Proper n system us
  turn_proper [] us t p = let z : ◌≡◌ {A = ℕ} 0 1 = cc in absurd (omega arith)
  turn_proper (l ∷ ts) us t p = by (λ g. turn_proper ts us g p.2) l.on t
    where
      by : (turn ts ≡ Some us → Proper n system us) → (b : Bool) → cond b (turn ts) (Some (positive l.switch ∷ ts)) ≡ Some us → Proper n system us
      by ih true g = ih g
      by ih false g =
          let e : positive l.switch ∷ ts ≡ us = cc in
          subst (λ x. Proper n system x) e p

  step_proper : (ts us : List Literal) → Follows n system ts (part n system ts) (due us) → Proper n system ts → Proper n system us
  step_proper ts us (turned d t) p = turn_proper ts us t p
  step_proper ts us (tried v d l e) p = subst (λ x. Proper n system x) e (d, l, p)

  pub reach_proper : (k : ℕ) (ts : List Literal) → Reach n system k ts → Proper n system ts
  reach_proper k ts start = tt
  reach_proper k ts (more {ts = us} r e) = step_proper us ts (step_follows n system us (part n system us) (due ts) e) (reach_proper _ us r)

  -- each try sets a free switch, so that there are no more tries than free switches
  pub stack_free : (ts : List Literal) → Proper n system ts → length ts + tally (is_open system (part n system ts)) n ≤ tally (free system) n
  stack_free [] p =
      let le = tally_le (free system) (is_open system (part n system [])) (λ w h. grind arith) n in
      omega arith
  stack_free (l ∷ ts) p =
      let ih = stack_free ts p.2 in
      let q = part n system ts in
      let a = part n system (l ∷ ts) in
      let low = lowest_some (is_open system q) n l.switch p.1 in
      let open-l = low.passes in
      let has = part_has l ts in
      let up = part_extends l ts (lowest_open n system q l.switch p.1).1 in
      let less : tally (is_open system a) n < tally (is_open system q) n =
      tally_less (is_open system q) (is_open system a) (λ w h. let e = up w in grind arith) l.switch open-l (grind arith) n low.within in
      omega arith

  -- and no more than switches that are set: before a try there are fewer than n
  pub stack_set : (ts : List Literal) → Proper n system ts → length ts + unset n (part n system ts) ≤ n
  stack_set [] p = let most = tally_most (λ v. not (is_some (part n system [] v))) n in omega arith
  stack_set (l ∷ ts) p =
      let ih = stack_set ts p.2 in
      let q = part n system ts in
      let low = lowest_open n system q l.switch p.1 in
      let less = unset_put n q l low.1 low.0 in
      let more = unset_le n (put q l) (part n system (l ∷ ts)) (forced_lies n system (put q l)).above in
      omega arith

  pub stack_room : (ts : List Literal) (v : ℕ) → Proper n system ts → lowest (is_open system (part n system ts)) n ≡ Some v → length ts < n
  stack_room ts v p h =
      let low = lowest_open n system (part n system ts) v h in
      let all = stack_set ts p in
      let less = unset_put n (part n system ts) (negative v) low.1 low.0 in
      omega arith
