-- The parity rules that stand, and the equations that are computed for them.
use Rattle.std.proofs.Common.{◌≡◌, ℕ, true, ◌↔◌, List, [], ◌∷◌, map, sym, refl, ap, ◌∙◌, inl, inr, arith}
use Rattle.std.proofs.lemmas.Bool.{and_parts, and_from}
use Rattle.rules.specs.declared.kinds.Side.{Side}
use Rattle.rules.specs.Settings.{Setting}
use Rattle.rules.specs.Constraints.{Constraint, clause, parity, switch_of, kept, Each, SomeOf, Keeps}
use Rattle.parity_theory.specs.Standing.{KeepsParities}
use Rattle.parity_theory.specs.Equations.{Equation, equation, satisfies, satisfies_all}
use Rattle.parity_theory.specs.Recovering.{clauses, named, equation_of, equations_of, recover, parities}
use Rattle.parity_theory.specs.Claims.{LawfulRules, OfRecovered}
use Rattle.parity_theory.proofs.Lists.{each_weaker, each_append, each_parts, each_map, each_of, each_at}
use Rattle.parity_theory.proofs.Bounds.{Sized}
use Rattle.parity_theory.proofs.Members.{lawful_proper, set_length, kept_satisfies}
use Rattle.parity_theory.proofs.Clauses.{sound}
use Rattle.parity_theory.proofs.Recovers.{each_firsts, only, complete}

-- what keeps the rules keeps the parity rules that stand
clauses_kept : (s : Setting) (rules : List Constraint) → Keeps rules s → Keeps (map clause (clauses rules)) s
clauses_kept s [] h = tt
clauses_kept s (clause ls ∷ rules) h = (h.0, clauses_kept s rules h.1)
clauses_kept s (parity vs side ∷ rules) h = clauses_kept s rules h.1

pub implied : (n : ℕ) (rules : List Constraint) (s : Setting) → Keeps rules s → KeepsParities n rules s
implied n rules s h vs side (inl k) = each_at (λ r. kept s r ≡ true) (parity vs side) rules h k
implied n rules s h vs side (inr k) = sound rules s (clauses_kept s rules h) vs side k.by_clauses

-- each equation is satisfied
pub satisfies_each : (n : ℕ) (s : Setting) (es : List Equation) → satisfies_all n s es ≡ true → Each (λ e. satisfies n s e ≡ true) es
satisfies_each n s [] h = tt
satisfies_each n s (e ∷ es) h = let p = and_parts _ _ h in (p.0, satisfies_each n s es p.1)

pub each_satisfies : (n : ℕ) (s : Setting) (es : List Equation) → Each (λ e. satisfies n s e ≡ true) es → satisfies_all n s es ≡ true
each_satisfies n s [] h = refl
each_satisfies n s (e ∷ es) h = and_from _ _ h.0 (each_satisfies n s es h.1)

-- the named rules
named_satisfied : (n : ℕ) (s : Setting) (rules : List Constraint) → LawfulRules n rules → ((vs : List ℕ) (side : Side) → SomeOf (λ r. r ≡ parity vs side) rules → kept s (parity vs side) ≡ true) → Each (λ e. satisfies n s e ≡ true) (named n rules)
named_satisfied n s [] law h = tt
named_satisfied n s (clause ls ∷ rules) law h = named_satisfied n s rules (and_parts _ _ law).1 (λ vs side k. h vs side (inr k))
named_satisfied n s (parity vs side ∷ rules) law h =
    let p = and_parts _ _ law in
    (sym (kept_satisfies n s vs side (lawful_proper n (parity vs side) p.0)) ∙ h vs side (inl refl), named_satisfied n s rules p.1 (λ ws c k. h ws c (inr k)))

named_kept : (n : ℕ) (s : Setting) (rules : List Constraint) → LawfulRules n rules → Each (λ e. satisfies n s e ≡ true) (named n rules) → (vs : List ℕ) (side : Side) → SomeOf (λ r. r ≡ parity vs side) rules → kept s (parity vs side) ≡ true
named_kept n s [] law h vs side k = absurd k
named_kept n s (clause ls ∷ rules) law h vs side (inl e) = let z : ◌≡◌ {A = ℕ} 0 1 = cc in absurd (omega arith)
named_kept n s (clause ls ∷ rules) law h vs side (inr k) = named_kept n s rules (and_parts _ _ law).1 h vs side k
named_kept n s (parity ws c ∷ rules) law h vs side (inl e) = ap (kept s) (sym e) ∙ kept_satisfies n s ws c (lawful_proper n (parity ws c) (and_parts _ _ law).0) ∙ h.0
named_kept n s (parity ws c ∷ rules) law h vs side (inr k) = named_kept n s rules (and_parts _ _ law).1 h.1 vs side k

-- a setting keeps the parity rules that stand where it satisfies the equations
pub words : (n : ℕ) (rules : List Constraint) → LawfulRules n rules → (s : Setting) → KeepsParities n rules s ↔ (satisfies_all n s (parities n rules) ≡ true)
words n rules law s = (forth, back)
  where
    forth : KeepsParities n rules s → satisfies_all n s (parities n rules) ≡ true
    forth h =
        each_satisfies n s (parities n rules)
        (each_append (λ e. satisfies n s e ≡ true) (named n rules) (recover n rules)
        (named_satisfied n s rules law (λ vs side k. h vs side (inl k)))
        (each_weaker (OfRecovered n rules) (λ e. satisfies n s e ≡ true) one (recover n rules) (only n rules law)))
      where
        one : (e : Equation) → OfRecovered n rules e → satisfies n s e ≡ true
        one e (vs, side, rec, q) = ap (satisfies n s) q ∙ sym (kept_satisfies n s vs side (lawful_proper n (parity vs side) rec.rule_lawful)) ∙ h vs side (inr rec)

    back : satisfies_all n s (parities n rules) ≡ true → KeepsParities n rules s
    back h = by (each_parts (λ e. satisfies n s e ≡ true) (named n rules) (recover n rules) (satisfies_each n s (parities n rules) h))
      where
        by : Each (λ e. satisfies n s e ≡ true) (named n rules) × Each (λ e. satisfies n s e ≡ true) (recover n rules) → KeepsParities n rules s
        by p vs side (inl k) = named_kept n s rules law p.0 vs side k
        by p vs side (inr k) =
            let there = complete n rules law vs side k in
            kept_satisfies n s vs side (lawful_proper n (parity vs side) k.rule_lawful) ∙ each_at (λ e. satisfies n s e ≡ true) (equation n vs side) (recover n rules) p.1 there

-- the sets of the equations have n places
pub named_sized : (n : ℕ) (rules : List Constraint) → Each (Sized n) (named n rules)
named_sized n [] = tt
named_sized n (clause ls ∷ rules) = named_sized n rules
named_sized n (parity vs side ∷ rules) = (set_length n vs, named_sized n rules)

pub recovered_sized : (n : ℕ) (rules : List Constraint) → Each (Sized n) (equations_of n (clauses rules))
recovered_sized n rules = each_map (Sized n) (equation_of n) _ (each_of (λ ls. Sized n (equation_of n ls)) (λ ls. set_length n (map switch_of ls)) _)

pub parities_sized : (n : ℕ) (rules : List Constraint) → Each (Sized n) (parities n rules)
parities_sized n rules = each_append (Sized n) (named n rules) (recover n rules) (named_sized n rules) (each_firsts (Sized n) (equations_of n (clauses rules)) (recovered_sized n rules))
