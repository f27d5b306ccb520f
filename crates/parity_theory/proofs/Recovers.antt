-- What is recovered is what the words say.
use Rattle.std.proofs.Common.{◌≡◌, ℕ, ◌≤◌, Bool, true, false, cond, not, ◌&&◌, eqb, leb, ◌⊎◌, ◌↔◌, List, [], ◌∷◌, map, length, filter, sym, refl, ap, ◌∙◌, subst, ap₂, inl, inr, true≢false, arith}
use mathlib.Core.Bool.{false≢true}
use Rattle.std.proofs.lemmas.List.{length-map}
use Rattle.std.proofs.lemmas.Bool.{cases_Bool, and_parts, and_from, or_parts, eq-eqb, ne_eqb, eqb-false, leb-true, le-leb, not-true}
use Rattle.rules.specs.declared.literals.Literal.{Literal}
use Rattle.rules.specs.declared.kinds.Side.{Side}
use Rattle.rules.specs.declared.kinds.Side.TheVariants.{Even, Odd}
use Rattle.rules.specs.declared.kinds.Kind.TheVariants.{Clause, Parity}
use Rattle.rules.specs.First.{every}
use Rattle.rules.specs.Settings.{Setting}
use Rattle.rules.specs.Constraints.{Constraint, clause, parity, xor, same, switch_of, literal_kept, some_kept, odd_on, is_odd, kept, Each, SomeOf, side_when}
use Rattle.rules.specs.Lawful.{absent, different, inside, width_fits, lawful}
use Rattle.parity_theory.specs.Standing.{Breaks, Recovered, IsRecovered}
use Rattle.parity_theory.specs.Equations.{Equation, equation, same_set, same_equation}
use Rattle.parity_theory.specs.Writing.{off_side, against, written_out}
use Rattle.parity_theory.specs.Recovering.{clauses, odd_negations, side_of, narrow, recovers, equation_of, equations_of, firsts, recover}
use Rattle.parity_theory.specs.Claims.{LawfulRules, OfRecovered}
use Rattle.parity_theory.proofs.Lists.{each_weaker, each_map, each_kept, each_passing, true_each, each_at, each_there, each_some, some_map, some_kept_by, some_weaker}
use Rattle.parity_theory.proofs.Members.{Proper, lawful_proper, Alike, alike_length, alike_set, alike_odd, set_alike}
use Rattle.parity_theory.proofs.Written.{against_switches, against_side, against_broken, side_against, written_each, written_at}
use Rattle.parity_theory.proofs.Clauses.{same_equal, there_recovered, recovered_there}

-- equal equations
same_set_equal : (a b : List Bool) → same_set a b ≡ true → a ≡ b
same_set_equal [] [] h = refl
same_set_equal [] (y ∷ b) h = absurd (false≢true h)
same_set_equal (x ∷ a) [] h = absurd (false≢true h)
same_set_equal (x ∷ a) (y ∷ b) h = let p = and_parts (same x y) (same_set a b) h in ap₂ ◌∷◌ (same_equal x y p.0) (same_set_equal a b p.1)

same_self : (b : Bool) → same b b ≡ true
same_self true = refl
same_self false = refl

same_set_self : (a : List Bool) → same_set a a ≡ true
same_set_self [] = refl
same_set_self (x ∷ a) = and_from _ _ (same_self x) (same_set_self a)

pub same_equation_equal : (e x : Equation) → same_equation e x ≡ true → e ≡ x
same_equation_equal e x h =
    let p = and_parts (same_set e.members x.members) (same e.odd x.odd) h in
    let q = same_set_equal e.members x.members p.0 in
    let r = same_equal e.odd x.odd p.1 in
    λ i. record { members = q i; odd = r i }

-- each equation once
pub each_firsts : (P : Equation → Type 0) (es : List Equation) → Each P es → Each P (firsts es)
each_firsts P [] h = tt
each_firsts P (e ∷ es) h = (h.0, each_passing P (λ x. not (same_equation e x)) (firsts es) (each_firsts P es h.1))

some_firsts : (x : Equation) (es : List Equation) → SomeOf (λ e. e ≡ x) es → SomeOf (λ e. e ≡ x) (firsts es)
some_firsts x [] h = h
some_firsts x (e ∷ es) (inl h) = inl h
some_firsts x (e ∷ es) (inr h) = by (some_firsts x es h) (cases_Bool (same_equation e x))
  where
    by : SomeOf (λ y. y ≡ x) (firsts es) → (same_equation e x ≡ true) ⊎ (same_equation e x ≡ false) → SomeOf (λ y. y ≡ x) (firsts (e ∷ es))
    by ih (inl same) = inl (same_equation_equal e x same)
    by ih (inr other) = inr (some_kept_by (λ y. y ≡ x) (λ y. not (same_equation e y)) (firsts es) (some_weaker (λ y. y ≡ x) _ (λ y k. (ap (λ z. not (same_equation e z)) k ∙ ap not other, k)) (firsts es) ih))

firsts_same : (x : Equation) (es : List Equation) → Each (λ e. e ≡ x) es → SomeOf (λ e. e ≡ x) es → firsts es ≡ x ∷ []
firsts_same x [] h k = absurd k
firsts_same x (e ∷ []) h k = ap (λ y. y ∷ []) h.0
firsts_same x (e ∷ f ∷ es) h k =
    let again : not (same_equation e x) ≡ false = ap (λ y. not (same_equation y x)) h.0 ∙ ap not (and_from _ _ (same_set_self x.members) (same_self x.odd)) in
    let rest = firsts_same x (f ∷ es) h.1 (inl h.1.0) in
    ap₂ ◌∷◌ h.0 (ap (filter (λ y. not (same_equation e y))) rest ∙ ap (λ b. cond b (x ∷ []) []) again)

-- the clauses of lawful rules are lawful
pub lawful_clauses : (n : ℕ) (rules : List Constraint) → LawfulRules n rules → Each (λ ls. lawful n (clause ls) ≡ true) (clauses rules)
lawful_clauses n [] h = tt
lawful_clauses n (clause ls ∷ rules) h = let p = and_parts _ _ h in (p.0, lawful_clauses n rules p.1)
lawful_clauses n (parity vs side ∷ rules) h = lawful_clauses n rules (and_parts _ _ h).1

-- a narrow lawful clause has switches for a lawful parity rule
narrow_lawful : (n : ℕ) (ls : List Literal) (side : Side) → lawful n (clause ls) ≡ true → narrow ls ≡ true → (lawful n (parity (map switch_of ls) side) ≡ true) × (length (map switch_of ls) ≤ 5)
narrow_lawful n ls side law nar =
    let p = and_parts (width_fits Clause (length (map switch_of ls))) (every (inside n) (map switch_of ls) && different (map switch_of ls)) law in
    let q = and_parts (leb 1 (length ls)) (leb (length ls) 5) nar in
    let lo = leb-true 1 (length ls) q.0 in
    let hi = leb-true (length ls) 5 q.1 in
    let e = length-map ls switch_of in
    (and_from _ _ (and_from _ _ (le-leb 1 (length (map switch_of ls)) (omega arith)) (le-leb (length (map switch_of ls)) 16 (omega arith))) p.1, omega arith)

pub only : (n : ℕ) (rules : List Constraint) → LawfulRules n rules → Each (OfRecovered n rules) (recover n rules)
only n rules law =
    let cs = clauses rules in
    each_firsts (OfRecovered n rules) _
    (each_map (OfRecovered n rules) (equation_of n) (filter (recovers cs) (filter narrow cs))
    (each_kept (λ ls. OfRecovered n rules (equation_of n ls)) (recovers cs) (filter narrow cs)
    (each_kept (λ ls. recovers cs ls ≡ true → OfRecovered n rules (equation_of n ls)) narrow cs
    (each_weaker (λ ls. lawful n (clause ls) ≡ true) _ one cs (lawful_clauses n rules law)))))
  where
    one : (ls : List Literal) → lawful n (clause ls) ≡ true → narrow ls ≡ true → recovers (clauses rules) ls ≡ true → OfRecovered n rules (equation_of n ls)
    one ls law nar rec =
        let p = narrow_lawful n ls (side_of ls) law nar in
        (map switch_of ls, side_of ls, record { rule_lawful = p.0; few = p.1; by_clauses = there_recovered rules (map switch_of ls) (side_of ls) rec }, refl)

-- some setting breaks a parity rule that has a switch
odd_on_off : (vs : List ℕ) → odd_on (λ _. false) vs ≡ false
odd_on_off [] = refl
odd_on_off (v ∷ vs) = odd_on_off vs

odd_on_absent : (v : ℕ) (vs : List ℕ) → absent v vs ≡ true → odd_on (λ u. eqb u v) vs ≡ false
odd_on_absent v [] h = refl
odd_on_absent v (w ∷ vs) h =
    let p = and_parts (not (eqb v w)) (absent v vs) h in
    ap₂ xor (ne_eqb w v (λ e. eqb-false v w (not-true _ p.0) (sym e))) (odd_on_absent v vs p.1)

breaker : (n : ℕ) (vs : List ℕ) (side : Side) → lawful n (parity vs side) ≡ true → (t : Setting) × (kept t (parity vs side) ≡ false)
breaker n [] side h = absurd (false≢true h)
breaker n (v ∷ vs) Odd h = ((λ _. false), ap (same true) (odd_on_off vs))
breaker n (v ∷ vs) Even h =
    let new = (and_parts (absent v vs) (different vs) (lawful_proper n (parity (v ∷ vs) Even) h).apart).0 in
    ((λ u. eqb u v), ap (same false) (ap₂ xor (eq-eqb v v refl) (odd_on_absent v vs new)))

-- rules on the same switches
breaks_same : (t : Setting) (vs ws : List ℕ) → Alike vs ws → (r : Constraint) → Breaks t vs r → Breaks t ws r
breaks_same t vs ws same (clause ls) h = (λ v. h.0 v ∙ same v, h.1)
breaks_same t vs ws same (parity us side) h = h

recovered_alike : (n : ℕ) (rules : List Constraint) (vs ws : List ℕ) (side : Side) → Proper n vs → Proper n ws → Alike vs ws → Recovered rules vs side → Recovered rules ws side
recovered_alike n rules vs ws side pv pw switches-same h t k = some_weaker (Breaks t vs) (Breaks t ws) (breaks_same t vs ws switches-same) rules (h t (ap (same (is_odd side)) (alike_odd n t vs ws pv pw switches-same) ∙ k))

-- the setting that breaks a clause has its negated switches on
not_same : (a b : Bool) → same a b ≡ false → b ≡ not a
not_same a b h = grind arith

broken_negations : (t : Setting) (ls : List Literal) → some_kept t ls ≡ false → odd_on t (map switch_of ls) ≡ odd_negations ls
broken_negations t [] h = refl
broken_negations t (l ∷ ls) h =
    let p = or_parts (literal_kept t l) (some_kept t ls) h in
    ap₂ xor (not_same l.on (t l.switch) p.0) (broken_negations t ls p.1)

-- each recovered rule is found by a clause that a setting against the rule breaks
breaks_clauses : (t : Setting) (vs : List ℕ) (rules : List Constraint) → SomeOf (Breaks t vs) rules → SomeOf (λ ls. Breaks t vs (clause ls)) (clauses rules)
breaks_clauses t vs [] h = h
breaks_clauses t vs (clause ls ∷ rules) (inl h) = inl h
breaks_clauses t vs (clause ls ∷ rules) (inr h) = inr (breaks_clauses t vs rules h)
breaks_clauses t vs (parity ws side ∷ rules) (inl h) = absurd h
breaks_clauses t vs (parity ws side ∷ rules) (inr h) = breaks_clauses t vs rules h

abbrev Gives : ℕ → List Constraint → Equation → List Literal → Type 0
Gives n rules e ls = (narrow ls ≡ true) × ((recovers (clauses rules) ls ≡ true) × (equation_of n ls ≡ e))

gives : (n : ℕ) (rules : List Constraint) (vs : List ℕ) (side : Side) → IsRecovered n rules vs side → (t : Setting) → kept t (parity vs side) ≡ false → (ls : List Literal) → lawful n (clause ls) ≡ true → Breaks t vs (clause ls) → Gives n rules (equation n vs side) ls
gives n rules vs side rec t k ls law h =
    let pv = lawful_proper n (parity vs side) rec.rule_lawful in
    let pl = lawful_proper n (clause ls) law in
    let len = alike_length n (map switch_of ls) vs pl pv h.0 in
    let size = length-map ls switch_of in
    let few = rec.few in
    let wide = and_parts _ _ (and_parts _ _ rec.rule_lawful).0 in
    let lo = leb-true 1 (length vs) wide.0 in
    let its_side : side_of ls ≡ side = ap (λ b. side_when (not b)) (sym (broken_negations t ls h.1) ∙ alike_odd n t (map switch_of ls) vs pl pv h.0) ∙ side_against side (odd_on t vs) (ap not k) in
    let again = recovered_alike n rules vs (map switch_of ls) side pv pl (λ v. sym (h.0 v)) rec.by_clauses in (
      and_from _ _ (le-leb 1 (length ls) (omega arith)) (le-leb (length ls) 5 (omega arith)),
      (
        recovered_there rules (map switch_of ls) (side_of ls) pl.apart (subst (Recovered rules (map switch_of ls)) (sym its_side) again),
        λ i. record { members = alike_set n (map switch_of ls) vs h.0 i; odd = is_odd (its_side i) },
      ),
    )

found : (n : ℕ) (rules : List Constraint) → LawfulRules n rules → (vs : List ℕ) (side : Side) → IsRecovered n rules vs side → SomeOf (λ e. e ≡ equation n vs side) (equations_of n (clauses rules))
found n rules law vs side rec =
    let b = breaker n vs side rec.rule_lawful in
    let cs = clauses rules in
    let e = equation n vs side in
    some_map (λ x. x ≡ e) (equation_of n) (filter (recovers cs) (filter narrow cs))
    (some_kept_by (λ ls. equation_of n ls ≡ e) (recovers cs) (filter narrow cs)
    (some_kept_by (λ ls. (recovers cs ls ≡ true) × (equation_of n ls ≡ e)) narrow cs
    (each_some (λ ls. lawful n (clause ls) ≡ true) (λ ls. Breaks b.0 vs (clause ls)) (Gives n rules e) (gives n rules vs side rec b.0 b.1) cs (lawful_clauses n rules law)
    (breaks_clauses b.0 vs rules (rec.by_clauses b.0 b.1)))))

pub complete : (n : ℕ) (rules : List Constraint) → LawfulRules n rules → (vs : List ℕ) (side : Side) → IsRecovered n rules vs side → SomeOf (λ e. e ≡ equation n vs side) (recover n rules)
complete n rules law vs side rec = some_firsts (equation n vs side) (equations_of n (clauses rules)) (found n rules law vs side rec)

side_equal : (a b : Side) → is_odd a ≡ is_odd b → a ≡ b
side_equal Even Even h = refl
side_equal Even Odd h = absurd (false≢true h)
side_equal Odd Even h = absurd (true≢false h)
side_equal Odd Odd h = refl

found_recovered : (n : ℕ) (rules : List Constraint) → LawfulRules n rules → (vs : List ℕ) (side : Side) → lawful n (parity vs side) ≡ true → SomeOf (λ e. e ≡ equation n vs side) (recover n rules) → IsRecovered n rules vs side
found_recovered n rules law vs side ok h = by (each_at (OfRecovered n rules) (equation n vs side) (recover n rules) (only n rules law) h)
  where
    by : OfRecovered n rules (equation n vs side) → IsRecovered n rules vs side
    by (ws, c, rec, e) =
        let pv = lawful_proper n (parity vs side) ok in
        let pw = lawful_proper n (parity ws c) rec.rule_lawful in
        let same = set_alike n ws vs pw pv (sym (ap (λ (x : Equation). x.members) e)) in
        let few = rec.few in
        let sides = side_equal c side (sym (ap (λ (x : Equation). x.odd) e)) in
        record {
          rule_lawful = ok;
          few = omega (arith, alike_length n ws vs pw pv same);
          by_clauses = subst (Recovered rules vs) sides (recovered_alike n rules ws vs c pw pv same rec.by_clauses);
        }

pub exact : (n : ℕ) (rules : List Constraint) → LawfulRules n rules → (vs : List ℕ) (side : Side) → lawful n (parity vs side) ≡ true → SomeOf (λ e. e ≡ equation n vs side) (recover n rules) ↔ IsRecovered n rules vs side
exact n rules law vs side ok = (found_recovered n rules law vs side ok, complete n rules law vs side)

-- a rule that is written out is recovered, and is the only one
module _ (n : ℕ) (vs : List ℕ) (side : Side) (ok : lawful n (parity vs side) ≡ true) (few : length vs ≤ 5) where
  abbrev its_clauses : List (List Literal)
  its_clauses = written_out vs side

  written_lawful : LawfulRules n (map clause its_clauses)
  written_lawful = true_each (lawful n) (map clause its_clauses) (each_map (λ r. lawful n r ≡ true) clause its_clauses (written_each (λ c. lawful n (clause c) ≡ true) vs side one))
    where
      p : (width_fits (Parity side) (length vs) ≡ true) × ((every (inside n) vs && different vs) ≡ true)
      p = and_parts (width_fits (Parity side) (length vs)) (every (inside n) vs && different vs) ok

      wide : width_fits Clause (length vs) ≡ true
      wide = and_from _ _ (and_parts (leb 1 (length vs)) (leb (length vs) 16) p.0).0 (le-leb (length vs) 8 (omega arith))

      one : (bs : List Bool) → length bs ≡ length vs → off_side side bs ≡ true → lawful n (clause (against vs bs)) ≡ true
      one bs l off = subst (λ ws. (width_fits Clause (length ws) && (every (inside n) ws && different ws)) ≡ true) (sym (against_switches vs bs l)) (and_from _ _ wide p.1)

  against_breaks : (t : Setting) → Breaks t vs (clause (against vs (map t vs)))
  against_breaks t = (λ v. ap (absent v) (against_switches vs (map t vs) (length-map vs t)), against_broken t vs)

  -- whatever other rules stand beside its clauses
  pub among : (rules : List Constraint) → Each (λ c. SomeOf (λ r. r ≡ clause c) rules) its_clauses → IsRecovered n rules vs side
  among rules there = record {
    rule_lawful = ok;
    few = few;
    by_clauses = λ t k.
        some_weaker (λ r. r ≡ clause (against vs (map t vs))) (Breaks t vs) (λ r e. subst (Breaks t vs) (sym e) (against_breaks t)) rules
        (written_at (λ c. SomeOf (λ r. r ≡ clause c) rules) vs side there t k);
  }

  alone : IsRecovered n (map clause its_clauses) vs side
  alone = among (map clause its_clauses) (each_weaker (λ c. SomeOf (λ d. d ≡ c) its_clauses) (λ c. SomeOf (λ r. r ≡ clause c) (map clause its_clauses)) (λ c h. some_map (λ r. r ≡ clause c) clause its_clauses (some_weaker (λ d. d ≡ c) (λ d. clause d ≡ clause c) (λ d e. ap clause e) its_clauses h)) its_clauses (each_there its_clauses))

  clauses_back : (cs : List (List Literal)) → clauses (map clause cs) ≡ cs
  clauses_back [] = refl
  clauses_back (c ∷ cs) = ap (λ ds. c ∷ ds) (clauses_back cs)

  pub regained : recover n (map clause its_clauses) ≡ equation n vs side ∷ []
  regained =
      let cs = clauses (map clause its_clauses) in
      let e = equation n vs side in
      let each : Each (λ c. equation_of n c ≡ e) cs = subst (Each (λ c. equation_of n c ≡ e)) (sym (clauses_back its_clauses)) (written_each (λ c. equation_of n c ≡ e) vs side one) in
      firsts_same e (equations_of n cs)
      (each_map (λ x. x ≡ e) (equation_of n) (filter (recovers cs) (filter narrow cs))
      (each_passing (λ c. equation_of n c ≡ e) (recovers cs) (filter narrow cs) (each_passing (λ c. equation_of n c ≡ e) narrow cs each)))
      (found n (map clause its_clauses) written_lawful vs side alone)
    where
      one : (bs : List Bool) → length bs ≡ length vs → off_side side bs ≡ true → equation_of n (against vs bs) ≡ equation n vs side
      one bs l off = ap₂ (equation n) (against_switches vs bs l) (against_side vs side bs l off)
