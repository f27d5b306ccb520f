-- An equation that comes again adds no row.
use Rattle.std.proofs.Common.{◌≡◌, ℕ, Bool, true, false, cond, not, List, [], ◌∷◌, ◌++◌, Some, None, filter, Option, sym, refl, ap, ◌∙◌, true≢false, arith}
use Rattle.std.proofs.lemmas.Bool.{and_parts}
use Rattle.rules.specs.Settings.{Setting}
use Rattle.rules.specs.Constraints.{Constraint, same, Each}
use Rattle.parity_theory.specs.Equations.{has, odd_in, Equation, satisfies, same_equation}
use Rattle.parity_theory.specs.Recovering.{clauses, named, equations_of, firsts, parities}
use Rattle.parity_theory.specs.Reducing.{Row, highest, cleared, placed, extended, reduce_from, reduce}
use Rattle.parity_theory.proofs.Sums.{odd_in_none}
use Rattle.parity_theory.proofs.Systems.{ReducedRows, ReducedIf, fits_if, HighestRight, highest_right, satisfies_cleared, extended_reduced, reduce_reduced, fits_extended}
use Rattle.parity_theory.proofs.Bounds.{Sized, AllSized, SizedIf, sized_extended, sized_reduced, dependents_within}
use Rattle.parity_theory.proofs.Count.{witness}
use Rattle.parity_theory.proofs.Unique.{Implied, implied_cleared}
use Rattle.parity_theory.proofs.Recovers.{same_equation_equal, each_firsts}
use Rattle.parity_theory.proofs.Words.{named_sized, recovered_sized}

highest_none : (set : List Bool) → ((v : ℕ) → has set v ≡ false) → highest set ≡ None
highest_none set h = by (highest set) (highest_right set)
  where
    by : (o : Option ℕ) → HighestRight set o → o ≡ None
    by None k = refl
    by (Some d) k = absurd (true≢false (sym k.0 ∙ h d))

same_false : (a b : Bool) → same a b ≡ true → b ≡ false → a ≡ false
same_false a b h k = grind arith

-- what the rows imply changes nothing
implied_adds_none : (n : ℕ) (rs : List Row) (e : Equation) → ReducedRows rs → AllSized n rs → Sized n e → Implied n rs e → extended (Some rs) e ≡ Some rs
implied_adds_none n rs e red sized size imp =
    let none = implied_cleared n rs e red sized size imp in
    let w = witness n rs red (dependents_within n rs red sized) in
    let kept = satisfies_cleared n w.0 rs e w.1 ∙ imp w.0 w.1 in
    let even = same_false (cleared rs e).odd (odd_in n (cleared rs e).members w.0) kept (odd_in_none n (cleared rs e).members w.0 none) in
    ap (placed rs (cleared rs e)) (highest_none (cleared rs e).members none) ∙ ap (λ b. cond b None (Some rs)) even

module _ (n : ℕ) where
  -- rows over n switches that imply an equation
  abbrev Sound : Option (List Row) → Type 0
  Sound o = ReducedIf o × SizedIf n o

  abbrev Implies : Option (List Row) → Equation → Type 0
  Implies o e = (s : Setting) → fits_if n s o ≡ true → satisfies n s e ≡ true

  sound_extended : (o : Option (List Row)) (e : Equation) → Sound o → Sized n e → Sound (extended o e)
  sound_extended o e h k = (extended_reduced o e h.0, sized_extended n o e h.1 k)

  implies_extended : (o : Option (List Row)) (e x : Equation) → Implies o e → Implies (extended o x) e
  implies_extended o e x h s k = h s (and_parts (fits_if n s o) (satisfies n s x) (sym (fits_extended n s o x) ∙ k)).0

  implies_itself : (o : Option (List Row)) (e : Equation) → Implies (extended o e) e
  implies_itself o e s k = (and_parts (fits_if n s o) (satisfies n s e) (sym (fits_extended n s o e) ∙ k)).1

  adds_none : (o : Option (List Row)) (e : Equation) → Sound o → Sized n e → Implies o e → extended o e ≡ o
  adds_none None e h size imp = refl
  adds_none (Some rs) e h size imp = implied_adds_none n rs e h.0 h.1 size imp

  drop_again : (e : Equation) (es : List Equation) (o : Option (List Row)) → Sized n e → Each (Sized n) es → Sound o → Implies o e → reduce_from o (filter (λ x. not (same_equation e x)) es) ≡ reduce_from o es
  drop_again e [] o size sizes h imp = refl
  drop_again e (x ∷ es) o size sizes h imp = by (λ p. drop_again e es p size sizes.1) (same_equation e x) refl
    where
      by : ((p : Option (List Row)) → Sound p → Implies p e → reduce_from p (filter (λ y. not (same_equation e y)) es) ≡ reduce_from p es) → (b : Bool) → same_equation e x ≡ b → reduce_from o (cond (not b) (x ∷ filter (λ y. not (same_equation e y)) es) (filter (λ y. not (same_equation e y)) es)) ≡ reduce_from (extended o x) es
      by ih true q = ih o h imp ∙ ap (λ p. reduce_from p es) (sym (ap (extended o) (sym (same_equation_equal e x q)) ∙ adds_none o e h size imp))
      by ih false q = ih (extended o x) (sound_extended o x h sizes.0) (implies_extended o e x imp)

  firsts_reduce : (es : List Equation) (o : Option (List Row)) → Each (Sized n) es → Sound o → reduce_from o (firsts es) ≡ reduce_from o es
  firsts_reduce [] o sizes h = refl
  firsts_reduce (e ∷ es) o sizes h =
      let more = sound_extended o e h sizes.0 in
      drop_again e (firsts es) (extended o e) sizes.0 (each_firsts (Sized n) es sizes.1) more (implies_itself o e) ∙ firsts_reduce es (extended o e) sizes.1 more

pub reduce_append : (xs ys : List Equation) (o : Option (List Row)) → reduce_from o (xs ++ ys) ≡ reduce_from (reduce_from o xs) ys
reduce_append [] ys o = refl
reduce_append (x ∷ xs) ys o = reduce_append xs ys (extended o x)

pub repeats : (n : ℕ) (rules : List Constraint) → reduce (named n rules ++ equations_of n (clauses rules)) ≡ reduce (parities n rules)
repeats n rules =
    let es = equations_of n (clauses rules) in
    let from = reduce (named n rules) in
    reduce_append (named n rules) es (Some [])
    ∙ sym (firsts_reduce n es from (recovered_sized n rules) (reduce_reduced (Some []) (named n rules) tt, sized_reduced n (Some []) (named n rules) tt (named_sized n rules)))
    ∙ sym (reduce_append (named n rules) (firsts es) (Some []))
