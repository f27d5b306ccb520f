-- The clauses that rules are written as: they are lawful, and kept by the same settings.
use Rattle.std.proofs.Common.{◌≡◌, ℕ, true, ◌&&◌, leb, ◌↔◌, List, [], ◌∷◌, ◌++◌, map, length, sym, subst, arith}
use Rattle.std.proofs.lemmas.List.{map-append}
use Rattle.std.proofs.lemmas.Bool.{and_parts, and_from, le-leb, ltb-false, not-true}
use Rattle.rules.specs.declared.literals.Literal.{Literal}
use Rattle.rules.specs.declared.kinds.Kind.TheVariants.{Clause}
use Rattle.rules.specs.First.{every}
use Rattle.rules.specs.Settings.{Setting}
use Rattle.rules.specs.Constraints.{Constraint, clause, parity, kept, Each, Keeps}
use Rattle.rules.specs.Lawful.{lawful, width_fits, inside, different}
use Rattle.parity_theory.proofs.Lists.{each_append, each_parts}
use Rattle.parity_theory.proofs.Written.{against_switches, written_each, written}
use Rattle.writer.specs.Expansion.{expanded, clauses_of, is_narrow}

-- a clause is lawful
abbrev Good : ℕ → List Literal → Type 0
Good n ls = lawful n (clause ls) ≡ true

good_expanded : (n : ℕ) (r : Constraint) → lawful n r ≡ true → is_narrow r ≡ true → Each (Good n) (expanded r)
good_expanded n (clause ls) law narrow = (law, tt)
good_expanded n (parity vs side) law narrow =
    written_each (Good n) vs side
    (λ bs sized off. subst (λ ws. (width_fits Clause (length ws) && (every (inside n) ws && different ws)) ≡ true) (sym (against_switches vs bs sized)) as_clause)
  where
    as_clause : (width_fits Clause (length vs) && (every (inside n) vs && different vs)) ≡ true
    as_clause =
        let a = and_parts (leb 1 (length vs) && leb (length vs) 16) _ law in
        let w = and_parts (leb 1 (length vs)) _ a.0 in
        let five = ltb-false 5 (length vs) (not-true _ narrow) in
        and_from (leb 1 (length vs) && leb (length vs) 8) _ (and_from (leb 1 (length vs)) _ w.0 (le-leb _ _ (omega arith))) a.1

pub good_clauses : (n : ℕ) (rules : List Constraint) → every (lawful n) rules ≡ true → every is_narrow rules ≡ true → Each (Good n) (clauses_of rules)
good_clauses n [] law narrow = tt
good_clauses n (r ∷ rules) law narrow =
    let l = and_parts (lawful n r) _ law in
    let w = and_parts (is_narrow r) _ narrow in
    each_append (Good n) (expanded r) (clauses_of rules) (good_expanded n r l.0 w.0) (good_clauses n rules l.1 w.1)

-- one rule
kept_expanded : (r : Constraint) (s : Setting) → Keeps (map clause (expanded r)) s ↔ (kept s r ≡ true)
kept_expanded (clause ls) s = (λ h. h.0, λ h. (h, tt))
kept_expanded (parity vs side) s = written vs side s

pub kept_clauses : (rules : List Constraint) (s : Setting) → Keeps (map clause (clauses_of rules)) s ↔ Keeps rules s
kept_clauses [] s = (λ h. h, λ h. h)
kept_clauses (r ∷ rules) s =
    let parts : map clause (expanded r ++ clauses_of rules) ≡ map clause (expanded r) ++ map clause (clauses_of rules) = map-append clause (expanded r) (clauses_of rules) in
    let here = kept_expanded r s in
    let later = kept_clauses rules s in (
      λ h. let both = each_parts (λ x. kept s x ≡ true) (map clause (expanded r)) (map clause (clauses_of rules)) (subst (λ xs. Keeps xs s) parts h) in (here.0 both.0, later.0 both.1),
      λ h. subst (λ xs. Keeps xs s) (sym parts) (each_append (λ x. kept s x ≡ true) (map clause (expanded r)) (map clause (clauses_of rules)) (here.1 h.0) (later.1 h.1)),
    )
