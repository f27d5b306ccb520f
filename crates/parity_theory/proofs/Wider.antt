-- The rows are the same however many switches there are beyond those of the rules.
use Rattle.std.proofs.Common.{◌≡◌, ℕ, zero, suc, ◌-◌, ◌≤◌, Bool, true, false, cond, leb, List, [], ◌∷◌, ◌++◌, map, Some, None, filter, Option, sym, refl, ap, ◌∙◌, ap₂, inl, inr, true≢false, arith}
use mathlib.Core.Bool.{false≢true}
use Rattle.std.proofs.lemmas.Bool.{cases_order, and_parts, and_from, leb-true, le-leb}
use Rattle.rules.specs.declared.literals.Literal.{Literal}
use Rattle.rules.specs.declared.kinds.Side.{Side}
use Rattle.rules.specs.First.{every}
use Rattle.rules.specs.Constraints.{Constraint, clause, parity, xor, switch_of, Each, side_when}
use Rattle.rules.specs.Lawful.{inside, lawful}
use Rattle.parity_theory.specs.Equations.{has, Equation, equation, plus}
use Rattle.parity_theory.specs.Recovering.{clauses, named, side_of, narrow, recovers, equation_of, equations_of}
use Rattle.parity_theory.specs.Reducing.{Row, row, highest, cleared_by, cleared, joined, placed, extended, reduce_from, reduce, falling, as_rule, as_rules, rows}
use Rattle.parity_theory.specs.Claims.{LawfulRules}
use Rattle.parity_theory.proofs.Lists.{each_passing}
use Rattle.parity_theory.proofs.Sums.{difference_has}
use Rattle.parity_theory.proofs.Systems.{IsHighest, HighestRight, highest_right}
use Rattle.parity_theory.proofs.Members.{lawful_proper, set_has}
use Rattle.parity_theory.proofs.Recovers.{lawful_clauses}
use Rattle.parity_theory.proofs.Repeats.{repeats}

-- the same switches, in lists of any length
abbrev SameSwitches : List Bool → List Bool → Type 0
SameSwitches a b = (v : ℕ) → has a v ≡ has b v

-- the same switches and the same side
abbrev Match : Equation → Equation → Type 0
Match e x = SameSwitches e.members x.members × (e.odd ≡ x.odd)

abbrev MatchRow : Row → Row → Type 0
MatchRow r q = (r.dependent ≡ q.dependent) × Match r.equation q.equation

abbrev Pairwise : {X : Type 0} → (X → X → Type 0) → List X → List X → Type 0
Pairwise P [] [] = Unit {0}
Pairwise P [] (y ∷ ys) = ⊥
Pairwise P (x ∷ xs) [] = ⊥
Pairwise P (x ∷ xs) (y ∷ ys) = P x y × Pairwise P xs ys

abbrev MatchIf : Option (List Row) → Option (List Row) → Type 0
MatchIf None None = Unit {0}
MatchIf None (Some qs) = ⊥
MatchIf (Some rs) None = ⊥
MatchIf (Some rs) (Some qs) = Pairwise MatchRow rs qs

module _ {X : Type 0} (P : X → X → Type 0) where
  pairs_append : (xs ys zs ws : List X) → Pairwise P xs ys → Pairwise P zs ws → Pairwise P (xs ++ zs) (ys ++ ws)
  pairs_append [] [] zs ws h k = k
  pairs_append [] (y ∷ ys) zs ws h k = absurd h
  pairs_append (x ∷ xs) [] zs ws h k = absurd h
  pairs_append (x ∷ xs) (y ∷ ys) zs ws h k = (h.0, pairs_append xs ys zs ws h.1 k)

-- clearing
match_plus : (e x d y : Equation) → Match e x → Match d y → Match (plus e d) (plus x y)
match_plus e x d y h k = (λ v. difference_has e.members d.members v ∙ ap₂ xor (h.0 v) (k.0 v) ∙ sym (difference_has x.members y.members v), ap₂ xor h.1 k.1)

match_cleared_by : (r q : Row) (e x : Equation) → MatchRow r q → Match e x → Match (cleared_by r e) (cleared_by q x)
match_cleared_by r q e x h k = by (has e.members r.dependent) (has x.members q.dependent) (k.0 r.dependent ∙ ap (has x.members) h.0)
  where
    by : (b c : Bool) → b ≡ c → Match (cond b (plus e r.equation) e) (cond c (plus x q.equation) x)
    by true true t = match_plus e x r.equation q.equation k h.1
    by true false t = absurd (true≢false t)
    by false true t = absurd (false≢true t)
    by false false t = k

match_cleared : (rs qs : List Row) (e x : Equation) → Pairwise MatchRow rs qs → Match e x → Match (cleared rs e) (cleared qs x)
match_cleared [] [] e x h k = k
match_cleared [] (q ∷ qs) e x h k = absurd h
match_cleared (r ∷ rs) [] e x h k = absurd h
match_cleared (r ∷ rs) (q ∷ qs) e x h k = match_cleared rs qs (cleared_by r e) (cleared_by q x) h.1 (match_cleared_by r q e x h.0 k)

match_joined : (rs qs : List Row) (r q : Row) → Pairwise MatchRow rs qs → MatchRow r q → Pairwise MatchRow (joined rs r) (joined qs q)
match_joined [] [] r q h k = (k, tt)
match_joined [] (y ∷ qs) r q h k = absurd h
match_joined (x ∷ rs) [] r q h k = absurd h
match_joined (x ∷ rs) (y ∷ qs) r q h k = ((h.0.0, match_cleared_by r q x.equation y.equation k h.0.1), match_joined rs qs r q h.1 k)

-- the highest switch
highest_one : (a b : List Bool) (d e : ℕ) → SameSwitches a b → IsHighest a d → IsHighest b e → d ≡ e
highest_one a b d e h k l =
    elim (cases_order d e) [
      | inl p ↦ p
      | inr (inl p) ↦ absurd (true≢false (sym l.0 ∙ sym (h e) ∙ k.1 e p))
      | inr (inr p) ↦ absurd (true≢false (sym k.0 ∙ h d ∙ l.1 d p))
    ]

highest_same : (a b : List Bool) → SameSwitches a b → highest a ≡ highest b
highest_same a b h = by (highest a) (highest b) (highest_right a) (highest_right b)
  where
    by : (o p : Option ℕ) → HighestRight a o → HighestRight b p → o ≡ p
    by None None k l = refl
    by None (Some e) k l = absurd (true≢false (sym l.0 ∙ sym (h e) ∙ k e))
    by (Some d) None k l = absurd (true≢false (sym k.0 ∙ h d ∙ l d))
    by (Some d) (Some e) k l = ap Some (highest_one a b d e h k l)

-- the reduction
match_placed : (rs qs : List Row) (e x : Equation) (o p : Option ℕ) → Pairwise MatchRow rs qs → Match e x → o ≡ p → MatchIf (placed rs e o) (placed qs x p)
match_placed rs qs e x None None h k t = by e.odd x.odd k.1
  where
    by : (b c : Bool) → b ≡ c → MatchIf (cond b None (Some rs)) (cond c None (Some qs))
    by true true q = tt
    by true false q = absurd (true≢false q)
    by false true q = absurd (false≢true q)
    by false false q = h
match_placed rs qs e x None (Some d) h k t = let z : ◌≡◌ {A = ℕ} 0 1 = cc in absurd (omega arith)
match_placed rs qs e x (Some d) None h k t = let z : ◌≡◌ {A = ℕ} 0 1 = cc in absurd (omega arith)
match_placed rs qs e x (Some d) (Some c) h k t = let same : d ≡ c = cc in match_joined rs qs (row d e) (row c x) h (same, k)

match_extended : (o p : Option (List Row)) (e x : Equation) → MatchIf o p → Match e x → MatchIf (extended o e) (extended p x)
match_extended None None e x h k = tt
match_extended None (Some qs) e x h k = absurd h
match_extended (Some rs) None e x h k = absurd h
match_extended (Some rs) (Some qs) e x h k =
    let m = match_cleared rs qs e x h k in
    match_placed rs qs (cleared rs e) (cleared qs x) (highest (cleared rs e).members) (highest (cleared qs x).members) h m (highest_same (cleared rs e).members (cleared qs x).members m.0)

match_reduce : (es xs : List Equation) (o p : Option (List Row)) → MatchIf o p → Pairwise Match es xs → MatchIf (reduce_from o es) (reduce_from p xs)
match_reduce [] [] o p h k = h
match_reduce [] (x ∷ xs) o p h k = absurd k
match_reduce (e ∷ es) [] o p h k = absurd k
match_reduce (e ∷ es) (x ∷ xs) o p h k = match_reduce es xs (extended o e) (extended p x) (match_extended o p e x h k.0) k.1

-- the rows as rules
falling_same : (a b : List Bool) → SameSwitches a b → (v : ℕ) → falling a v ≡ falling b v
falling_same a b h zero = refl
falling_same a b h (suc v) = ap₂ (λ t vs. cond t (suc v ∷ vs) vs) (h (suc v)) (falling_same a b h v)

rule_same : (r q : Row) → MatchRow r q → as_rule r ≡ as_rule q
rule_same r q h =
    let fall = falling_same r.equation.members q.equation.members h.1.0 (r.dependent - 1) ∙ ap (λ d. falling q.equation.members (d - 1)) h.0 in
    ap₂ parity (ap₂ ◌∷◌ h.0 fall) (ap side_when h.1.1)

rules_same : (o p : Option (List Row)) → MatchIf o p → as_rules o ≡ as_rules p
rules_same None None h = refl
rules_same None (Some qs) h = absurd h
rules_same (Some rs) None h = absurd h
rules_same (Some rs) (Some qs) h = ap Some (each rs qs h)
  where
    each : (xs ys : List Row) → Pairwise MatchRow xs ys → map as_rule xs ≡ map as_rule ys
    each [] [] k = refl
    each [] (y ∷ ys) k = absurd k
    each (x ∷ xs) [] k = absurd k
    each (x ∷ xs) (y ∷ ys) k = ap₂ ◌∷◌ (rule_same x y k.0) (each xs ys k.1)

-- the equations
module _ (n m : ℕ) (l : n ≤ m) where
  pub inside_wider : (vs : List ℕ) → every (inside n) vs ≡ true → every (inside m) vs ≡ true
  inside_wider [] h = refl
  inside_wider (v ∷ vs) h =
      let p = and_parts (inside n v) (every (inside n) vs) h in
      let q = and_parts (leb 1 v) (leb v n) p.0 in
      let b = leb-true v n q.1 in
      and_from _ _ (and_from _ _ q.0 (le-leb v m (omega arith))) (inside_wider vs p.1)

  match_equation : (vs : List ℕ) (side : Side) → every (inside n) vs ≡ true → Match (equation m vs side) (equation n vs side)
  match_equation vs side h = (λ v. set_has m vs (inside_wider vs h) v ∙ sym (set_has n vs h v), refl)

  match_named : (rules : List Constraint) → LawfulRules n rules → Pairwise Match (named m rules) (named n rules)
  match_named [] law = tt
  match_named (clause ls ∷ rules) law = match_named rules (and_parts _ _ law).1
  match_named (parity vs side ∷ rules) law = let p = and_parts _ _ law in (match_equation vs side (lawful_proper n (parity vs side) p.0).ranged, match_named rules p.1)

  match_recovered : (cs : List (List Literal)) → Each (λ ls. lawful n (clause ls) ≡ true) cs → Pairwise Match (map (equation_of m) cs) (map (equation_of n) cs)
  match_recovered [] law = tt
  match_recovered (c ∷ cs) law = (match_equation (map switch_of c) (side_of c) (lawful_proper n (clause c) law.0).ranged, match_recovered cs law.1)

  pub wider : (rules : List Constraint) → LawfulRules n rules → rows m rules ≡ rows n rules
  wider rules law =
      let cs = clauses rules in
      let ok : Each (λ ls. lawful n (clause ls) ≡ true) (filter (recovers cs) (filter narrow cs)) = each_passing _ (recovers cs) (filter narrow cs) (each_passing _ narrow cs (lawful_clauses n rules law)) in
      let pairs = pairs_append Match (named m rules) (named n rules) (equations_of m cs) (equations_of n cs) (match_named rules law) (match_recovered (filter (recovers cs) (filter narrow cs)) ok) in
      ap as_rules (sym (repeats m rules))
      ∙ rules_same (reduce (named m rules ++ equations_of m cs)) (reduce (named n rules ++ equations_of n cs)) (match_reduce (named m rules ++ equations_of m cs) (named n rules ++ equations_of n cs) (Some []) (Some []) tt pairs)
      ∙ ap as_rules (repeats n rules)
