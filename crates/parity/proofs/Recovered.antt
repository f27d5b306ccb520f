-- A parity rule is recovered where each setting that breaks it is marked.
use Rattle.std.proofs.Common.{◌≡◌, ℕ, ◌^◌, ◌<◌, ◌≤◌, Bool, true, false, not, List, [], ◌∷◌, map, length, get_or, set, replicate, Some, None, Decides, Option, sym, refl, ap, ◌∙◌, subst, inl, inr, true≢false, arith, pow_mono}
use Rattle.std.proofs.lemmas.List.{length-map, length-set, length-replicate, get_or-replicate, get_or-set_same, get_or-set_other}
use Rattle.std.proofs.lemmas.Bool.{cases_Bool, cases_eq, not-true}
use Rattle.rules.specs.declared.kinds.Side.{Side}
use Rattle.rules.specs.Constraints.{Constraint, same, is_odd, SomeOf}
use Rattle.rules.specs.Lawful.{lawful}
use Rattle.parity_theory.specs.Standing.{Breaks, Recovered}
use Rattle.parity_theory.specs.Writing.{off_side}
use Rattle.parity_theory.specs.Recovering.{clauses, all_there}
use Rattle.parity_theory.specs.Claims.{LawfulRules}
use Rattle.parity_theory.proofs.Lists.{each_some, each_true}
use Rattle.parity_theory.proofs.Members.{Proper}
use Rattle.parity_theory.proofs.Written.{off_side_values, having, having_values}
use Rattle.parity_theory.proofs.Clauses.{implies_both, there_recovered, recovered_there}
use Rattle.parity.specs.Places.{place, breaking_place, marked, marked_by, off_side_at}
use Rattle.parity.proofs.Places.{place_below, place_odd, values_at, values_length, place_values}
use Rattle.parity.proofs.Breaking.{breaks_place, place_breaks}

pub marked_length : (marks : List Bool) (o : Option ℕ) → length (marked marks o) ≡ length marks
marked_length marks None = refl
marked_length marks (Some k) = length-set marks k true

-- ---- what is marked

module _ (vs : List ℕ) (k : ℕ) where
  marked_stays : (marks : List Bool) (o : Option ℕ) → k < length marks → get_or marks k false ≡ true → get_or (marked marks o) k false ≡ true
  marked_stays marks None l h = h
  marked_stays marks (Some j) l h =
      elim (cases_eq k j) [
        | inl e ↦ ap (λ i. get_or (set marks i true) k false) (sym e) ∙ get_or-set_same marks k true false l
        | inr ne ↦ get_or-set_other marks j k true false ne ∙ h
      ]

  stays : (rules : List Constraint) (marks : List Bool) → k < length marks → get_or marks k false ≡ true → get_or (marked_by vs rules marks) k false ≡ true
  stays [] marks l h = h
  stays (r ∷ rules) marks l h = let e = marked_length marks (breaking_place vs r) in stays rules (marked marks (breaking_place vs r)) (omega arith) (marked_stays marks (breaking_place vs r) l h)

  some_marked : (rules : List Constraint) (marks : List Bool) → k < length marks → SomeOf (λ r. breaking_place vs r ≡ Some k) rules → get_or (marked_by vs rules marks) k false ≡ true
  some_marked [] marks l h = absurd h
  some_marked (r ∷ rules) marks l (inl h) =
      let e = marked_length marks (breaking_place vs r) in
      stays rules (marked marks (breaking_place vs r)) (omega arith) (ap (λ o. get_or (marked marks o) k false) h ∙ get_or-set_same marks k true false l)
  some_marked (r ∷ rules) marks l (inr h) = let e = marked_length marks (breaking_place vs r) in some_marked rules (marked marks (breaking_place vs r)) (omega arith) h

  newly_marked : (marks : List Bool) (o : Option ℕ) → get_or marks k false ≡ false → get_or (marked marks o) k false ≡ true → o ≡ Some k
  newly_marked marks None f h = absurd (true≢false (sym h ∙ f))
  newly_marked marks (Some j) f h = elim (cases_eq k j) [ inl e ↦ ap Some (sym e) | inr ne ↦ absurd (true≢false (sym h ∙ get_or-set_other marks j k true false ne ∙ f)) ]

  marked_some : (rules : List Constraint) (marks : List Bool) → get_or marks k false ≡ false → get_or (marked_by vs rules marks) k false ≡ true → SomeOf (λ r. breaking_place vs r ≡ Some k) rules
  marked_some [] marks f h = absurd (true≢false (sym h ∙ f))
  marked_some (r ∷ rules) marks f h =
      elim (cases_Bool (get_or (marked marks (breaking_place vs r)) k false)) [
        | inl e ↦ inl (newly_marked marks (breaking_place vs r) f e)
        | inr e ↦ inr (marked_some rules (marked marks (breaking_place vs r)) e h)
      ]

-- ---- the settings that break the rule

off_side_place : (side : Side) (bs : List Bool) → off_side_at side (place bs) ≡ off_side side bs
off_side_place side bs = ap (λ b. not (same (is_odd side) b)) (place_odd bs)

module _ (rules : List Constraint) (law : LawfulRules 256 rules) (vs : List ℕ) (side : Side) (ok : Proper 256 vs) (few : length vs ≤ 5) where
  -- each place of a setting that breaks the rule is marked
  abbrev AllMarked : Type 0
  AllMarked = (k : ℕ) → k < 2 ^ length vs → off_side_at side k ≡ true → get_or (marked_by vs rules (replicate 32 false)) k false ≡ true

  small : (k : ℕ) → k < 2 ^ length vs → k < 32
  small k h = let m : 2 ^ length vs ≤ 2 ^ 5 = pow_mono {i = length vs} {j = 5} few in omega arith

  all_recovered : AllMarked → Recovered rules vs side
  all_recovered all t h =
      let k = place (map t vs) in
      let size = length-map vs t in
      let here : k < 2 ^ length vs = subst (λ n. k < 2 ^ n) size (place_below (map t vs)) in
      let off = off_side_place side (map t vs) ∙ off_side_values t vs side ∙ ap not h in
      each_some (λ r. lawful 256 r ≡ true) (λ r. breaking_place vs r ≡ Some k) (Breaks t vs) (place_breaks 256 t vs ok) rules (each_true (lawful 256) rules law)
      (marked_some vs k rules (replicate 32 false) (get_or-replicate 32 k false false (small k here)) (all k here off))

  recovered_all : Recovered rules vs side → AllMarked
  recovered_all rec k here off =
      let bs = values_at (length vs) k in
      let t = having vs bs in
      let e : map t vs ≡ bs = having_values vs bs ok.apart (values_length (length vs) k) in
      let at : place (map t vs) ≡ k = ap place e ∙ place_values (length vs) k here in
      let broken = not-true _ (sym (off_side_values t vs side) ∙ sym (off_side_place side (map t vs)) ∙ ap (off_side_at side) at ∙ off) in
      some_marked vs k rules (replicate 32 false) (omega (arith, length-replicate 32 false, small k here))
      (each_some (λ r. lawful 256 r ≡ true) (Breaks t vs) (λ r. breaking_place vs r ≡ Some k) (λ r l b. breaks_place 256 t vs ok r l b ∙ ap Some at) rules (each_true (lawful 256) rules law) (rec t broken))

  pub decided : (r : Bool) → Decides r AllMarked → r ≡ all_there (clauses rules) vs side
  decided r d =
      implies_both r (all_there (clauses rules) vs side)
      (λ e. recovered_there rules vs side ok.apart (all_recovered (d.0 e)))
      (λ e. d.1 (recovered_all (there_recovered rules vs side e)))
