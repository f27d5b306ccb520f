-- The rows of the parity rules that stand, and the settings that keep them.
use Rattle.std.proofs.Common.{◌≡◌, ℕ, ◌-◌, ◌^◌, Bool, true, ◌↔◌, List, map, length, Some, None, filter, Option, sym, refl, ap, ◌∙◌, subst, true≢false, arith}
use Rattle.std.proofs.lemmas.List.{length-map}
use Rattle.rules.specs.First.{every}
use Rattle.rules.specs.Settings.{Setting, setting}
use Rattle.rules.specs.Constraints.{Constraint, SomeOf, Keeps}
use Rattle.rules.specs.Rows.{free, tally, Reduced}
use Rattle.parity_theory.specs.Standing.{KeepsParities}
use Rattle.parity_theory.specs.Equations.{satisfies_all}
use Rattle.parity_theory.specs.Writing.{settings}
use Rattle.parity_theory.specs.Recovering.{parities}
use Rattle.parity_theory.specs.Reducing.{Row, reduce, as_rule, as_rules, rows, left_free, freedom}
use Rattle.parity_theory.specs.Counting.{Exactly}
use Rattle.parity_theory.specs.Claims.{LawfulRules, is_parity, NoneKeeps, RecoveryRight, ReductionRight, FreedomRight}
use Rattle.parity_theory.proofs.Lists.{each_weaker, each_kept, each_at, some_weaker, some_kept_by}
use Rattle.parity_theory.proofs.Systems.{ReducedRows, fits, fits_if, fits_reduce}
use Rattle.parity_theory.proofs.Bounds.{rows_reduced, dependents_within}
use Rattle.parity_theory.proofs.Settings.{settings_sized, settings_all, settings_rising, rising_kept}
use Rattle.parity_theory.proofs.Count.{Bounded, count, count_same, counted, witness}
use Rattle.parity_theory.proofs.Written.{written}
use Rattle.parity_theory.proofs.Clauses.{sound}
use Rattle.parity_theory.proofs.Recovers.{only, exact, among, regained}
use Rattle.parity_theory.proofs.Words.{implied, words, parities_sized}
use Rattle.parity_theory.proofs.Rows.{rows_kept, rows_reduced_rules, rows_parities, tally_free}
use Rattle.parity_theory.proofs.Repeats.{repeats}
use Rattle.parity_theory.proofs.Wider.{wider}
use Rattle.parity_theory.proofs.Singles.{single}

pub recovery_right : RecoveryRight
recovery_right = record { sound = sound; exact = exact; only = only; written = written; regained = regained; among = among }

-- the rows behind the rules
record Made (n : ℕ) (rules rs : List Constraint) : Type 0 where
  made : List Row
  reduces : reduce (parities n rules) ≡ Some made
  as_rows : map as_rule made ≡ rs

made_rows : (n : ℕ) (rules rs : List Constraint) → rows n rules ≡ Some rs → Made n rules rs
made_rows n rules rs e = by (reduce (parities n rules)) refl e
  where
    by : (o : Option (List Row)) → reduce (parities n rules) ≡ o → as_rules o ≡ Some rs → Made n rules rs
    by None q h = let z : ◌≡◌ {A = ℕ} 0 1 = cc in absurd (omega arith)
    by (Some qs) q h = record { made = qs; reduces = q; as_rows = cc }

module _ (n : ℕ) (rules : List Constraint) (qs : List Row) (e : reduce (parities n rules) ≡ Some qs) where
  made_reduced : ReducedRows qs
  made_reduced = (rows_reduced n (parities n rules) qs (parities_sized n rules) e).0

  made_bounded : Bounded n qs
  made_bounded = dependents_within n qs made_reduced (rows_reduced n (parities n rules) qs (parities_sized n rules) e).1

  made_fits : (s : Setting) → satisfies_all n s (parities n rules) ≡ fits n s qs
  made_fits s = sym (fits_reduce n s (parities n rules)) ∙ ap (fits_if n s) e

reduced : (n : ℕ) (rules rs : List Constraint) → LawfulRules n rules → rows n rules ≡ Some rs → Reduced n rs × (every is_parity rs ≡ true)
reduced n rules rs law e =
    let m = made_rows n rules rs e in
    let red = made_reduced n rules m.made m.reduces in
    subst (λ xs. Reduced n xs × (every is_parity xs ≡ true)) m.as_rows (rows_reduced_rules n m.made red (made_bounded n rules m.made m.reduces), rows_parities m.made)

same_settings : (n : ℕ) (rules rs : List Constraint) → LawfulRules n rules → rows n rules ≡ Some rs → (s : Setting) → KeepsParities n rules s ↔ Keeps rs s
same_settings n rules rs law e s =
    let m = made_rows n rules rs e in
    let w = words n rules law s in
    let f = made_fits n rules m.made m.reduces s in
    let k = rows_kept n s m.made (made_reduced n rules m.made m.reduces) (made_bounded n rules m.made m.reduces) in
    subst (λ xs. KeepsParities n rules s ↔ Keeps xs s) m.as_rows (λ h. k.0 (sym f ∙ w.0 h), λ h. w.1 (f ∙ k.1 h))

contradiction : (n : ℕ) (rules : List Constraint) → LawfulRules n rules → (rows n rules ≡ None) ↔ NoneKeeps n rules
contradiction n rules law = by (reduce (parities n rules)) refl
  where
    by : (o : Option (List Row)) → reduce (parities n rules) ≡ o → (as_rules o ≡ None) ↔ NoneKeeps n rules
    by None e = (λ _ s h. true≢false (sym ((words n rules law s).0 h) ∙ sym (fits_reduce n s (parities n rules)) ∙ ap (fits_if n s) e), λ _. refl)
    by (Some qs) e = (
      λ q. let z : ◌≡◌ {A = ℕ} 0 1 = cc in absurd (omega arith),
      λ none. let w = witness n qs (made_reduced n rules qs e) (made_bounded n rules qs e) in absurd (none w.0 ((words n rules law w.0).1 (made_fits n rules qs e w.0 ∙ w.1))),
    )

pub reduction_right : ReductionRight
reduction_right = record { implied = implied; reduced = reduced; same_settings = same_settings; contradiction = contradiction; single = single; repeats = repeats; wider = wider }

-- the settings that keep the parity rules, listed
exactly : (n : ℕ) (rules : List Constraint) → LawfulRules n rules → (qs : List Row) → reduce (parities n rules) ≡ Some qs → Exactly n (2 ^ (n - length qs)) (KeepsParities n rules)
unfolding count
exactly n rules law qs e =
    record {
      those = filter test (settings n);
      just = λ s. (from s, to s);
      rising = rising_kept n test (settings n) (settings_rising n);
      size = count_same n test (λ s. fits n (setting s) qs) (λ s _. made_fits n rules qs e (setting s)) ∙ (counted n qs (made_reduced n rules qs e) (made_bounded n rules qs e)).1;
    }
  where
    test : List Bool → Bool
    test s = satisfies_all n (setting s) (parities n rules)

    from : (s : List Bool) → SomeOf (λ t. t ≡ s) (filter test (settings n)) → (length s ≡ n) × KeepsParities n rules (setting s)
    from s h =
        each_at (λ t. (length t ≡ n) × KeepsParities n rules (setting t)) s (filter test (settings n))
        (each_kept (λ t. (length t ≡ n) × KeepsParities n rules (setting t)) test (settings n) (each_weaker (λ t. length t ≡ n) _ (λ t l k. (l, (words n rules law (setting t)).1 k)) (settings n) (settings_sized n))) h

    to : (s : List Bool) → (length s ≡ n) × KeepsParities n rules (setting s) → SomeOf (λ t. t ≡ s) (filter test (settings n))
    to s h =
        some_kept_by (λ t. t ≡ s) test (settings n)
        (some_weaker (λ t. t ≡ s) _ (λ t q. (ap test q ∙ (words n rules law (setting s)).0 h.1, q)) (settings n) (settings_all n s h.0))

counts : (n f : ℕ) (rules : List Constraint) → LawfulRules n rules → freedom n rules ≡ Some f → Exactly n (2 ^ f) (KeepsParities n rules)
counts n f rules law e = by (reduce (parities n rules)) refl e
  where
    by : (o : Option (List Row)) → reduce (parities n rules) ≡ o → left_free n (as_rules o) ≡ Some f → Exactly n (2 ^ f) (KeepsParities n rules)
    by None q h = let z : ◌≡◌ {A = ℕ} 0 1 = cc in absurd (omega arith)
    by (Some qs) q h =
        let k : n - length (map as_rule qs) ≡ f = cc in
        subst (λ m. Exactly n (2 ^ m) (KeepsParities n rules)) (ap (λ m. n - m) (sym (length-map qs as_rule)) ∙ k) (exactly n rules law qs q)

free_switches : (n : ℕ) (rules rs : List Constraint) → LawfulRules n rules → rows n rules ≡ Some rs → freedom n rules ≡ Some (tally (free rs) n)
free_switches n rules rs law e =
    let m = made_rows n rules rs e in
    ap (left_free n) e ∙ ap Some (subst (λ xs. n - length xs ≡ tally (free xs) n) m.as_rows (tally_free n m.made (made_reduced n rules m.made m.reduces) (made_bounded n rules m.made m.reduces)))

no_freedom : (n : ℕ) (rules : List Constraint) → LawfulRules n rules → (freedom n rules ≡ None) ↔ NoneKeeps n rules
no_freedom n rules law =
    let c = contradiction n rules law in
    (λ e. c.0 (back (rows n rules) e), λ none. ap (left_free n) (c.1 none))
  where
    back : (o : Option (List Constraint)) → left_free n o ≡ None → o ≡ None
    back None h = refl
    back (Some rs) h = let z : ◌≡◌ {A = ℕ} 0 1 = cc in absurd (omega arith)

pub freedom_right : FreedomRight
freedom_right = record { counts = counts; free_switches = free_switches; contradiction = no_freedom }
