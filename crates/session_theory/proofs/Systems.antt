-- The system fits the rules.
use Rattle.std.proofs.Common.{◌≡◌, ℕ, true, leb, ◌↔◌, List, [], ◌∷◌, ◌++◌, map, length, Some, None, Option, sym, refl, ap, ◌∙◌, subst, inl, inr}
use Rattle.std.proofs.lemmas.Bool.{and_parts, leb-true}
use Rattle.rules.specs.declared.literals.Literal.{Literal}
use Rattle.rules.specs.declared.kinds.Side.{Side}
use Rattle.rules.specs.declared.kinds.Kind.TheVariants.{Clause}
use Rattle.rules.specs.First.{every}
use Rattle.rules.specs.Settings.{Setting, Within}
use Rattle.rules.specs.Constraints.{Constraint, clause, parity, switch_of, kept, Each, SomeOf, Keeps}
use Rattle.rules.specs.Lawful.{width_fits, inside, lawful}
use Rattle.rules.specs.Rows.{free, tally, Member, Apart, Reduced}
use Rattle.parity_theory.specs.Recovering.{clauses}
use Rattle.parity_theory.specs.Reducing.{rows}
use Rattle.parity_theory.specs.Claims.{LawfulRules, NoneKeeps}
use Rattle.parity_theory.proofs.Lists.{each_weaker, each_append, each_parts, each_map, each_unmap, each_true}
use Rattle.parity_theory.proofs.Results.{reduction_right, freedom_right}
use Rattle.session_theory.specs.System.{with_rows, system, Fits, SystemsRight}

-- clauses before the rows change neither what is free nor whether the rows are reduced
free_skip : (cs : List (List Literal)) (rs : List Constraint) (v : ℕ) → free (map clause cs ++ rs) v ≡ free rs v
free_skip [] rs v = refl
free_skip (c ∷ cs) rs v = free_skip cs rs v

apart_skip : (cs : List (List Literal)) (rs : List Constraint) → Apart rs → Apart (map clause cs ++ rs)
apart_skip [] rs h = h
apart_skip (c ∷ cs) rs h = apart_skip cs rs h

member_skip : (n : ℕ) (cs : List (List Literal)) (rs : List Constraint) (r : Constraint) → Member n rs r → Member n (map clause cs ++ rs) r
member_skip n cs rs (clause ls) h = h
member_skip n cs rs (parity [] side) h = h
member_skip n cs rs (parity (d ∷ vs) side) h = (h.0, h.1, each_weaker _ _ (λ v p. (p.0, free_skip cs rs v ∙ p.1)) vs h.2)

-- the literals of lawful clauses are over the n switches
literals_within : (n : ℕ) (ls : List Literal) → lawful n (clause ls) ≡ true → Each (λ l. Within n l.switch) ls
literals_within n ls h =
    let p = and_parts (width_fits Clause (length (map switch_of ls))) _ h in
    let q = and_parts (every (inside n) (map switch_of ls)) _ p.1 in
    each_weaker (λ l. inside n l.switch ≡ true) (λ l. Within n l.switch) (λ l e. let b = and_parts (leb 1 l.switch) _ e in (leb-true _ _ b.0, leb-true _ _ b.1)) ls
    (each_unmap (λ v. inside n v ≡ true) switch_of ls (each_true (inside n) (map switch_of ls) q.0))

clauses_within : (n : ℕ) (rules : List Constraint) → LawfulRules n rules → Each (Each (λ l. Within n l.switch)) (clauses rules)
clauses_within n [] law = tt
clauses_within n (clause ls ∷ rules) law = let p = and_parts (lawful n (clause ls)) _ law in (literals_within n ls p.0, clauses_within n rules p.1)
clauses_within n (parity vs side ∷ rules) law = clauses_within n rules (and_parts (lawful n (parity vs side)) _ law).1

-- what keeps the rules keeps their clauses, and what keeps these and the named parity rules keeps the rules
keeps_clauses : (s : Setting) (rules : List Constraint) → Keeps rules s → Keeps (map clause (clauses rules)) s
keeps_clauses s [] h = tt
keeps_clauses s (clause ls ∷ rules) h = (h.0, keeps_clauses s rules h.1)
keeps_clauses s (parity vs side ∷ rules) h = keeps_clauses s rules h.1

keeps_rules :
    (s : Setting) (rules : List Constraint) → Keeps (map clause (clauses rules)) s →
    ((vs : List ℕ) (side : Side) → SomeOf (λ r. r ≡ parity vs side) rules → kept s (parity vs side) ≡ true) → Keeps rules s
keeps_rules s [] h k = tt
keeps_rules s (clause ls ∷ rules) h k = (h.0, keeps_rules s rules h.1 (λ vs side i. k vs side (inr i)))
keeps_rules s (parity vs side ∷ rules) h k = (k vs side (inl refl), keeps_rules s rules h (λ ws other i. k ws other (inr i)))

module _ (n : ℕ) (rules : List Constraint) (law : LawfulRules n rules) where
  rows_fit : (rs : List Constraint) → rows n rules ≡ Some rs → Fits n rules (map clause (clauses rules) ++ rs)
  rows_fit rs e =
      record {
        reduced = record {
          members = each_append (Member n all) (map clause cs) rs (each_map (Member n all) clause cs (clauses_within n rules law)) (each_weaker (Member n rs) (Member n all) (member_skip n cs rs) rs red.members);
          apart = apart_skip cs rs red.apart;
        };
        same_settings = λ s. (
          λ h. each_append (λ r. kept s r ≡ true) (map clause cs) rs (keeps_clauses s rules h) ((reduction_right.same_settings n rules rs law e s).0 (reduction_right.implied n rules s h)),
          λ h.
              let p = each_parts (λ r. kept s r ≡ true) (map clause cs) rs h in
              let k = (reduction_right.same_settings n rules rs law e s).1 p.1 in
              keeps_rules s rules p.0 (λ vs side i. k vs side (inl i)),
        );
        free_switches = freedom_right.free_switches n rules rs law e ∙ ap (λ t. Some (tally t n)) (λ i v. sym (free_skip cs rs v) i);
      }
    where
      cs : List (List Literal)
      cs = clauses rules

      all : List Constraint
      all = map clause cs ++ rs

      red : Reduced n rs
      red = (reduction_right.reduced n rules rs law e).0

  pub system_fits : (rs : List Constraint) → system n rules ≡ Some rs → Fits n rules rs
  system_fits rs e = by (rows n rules) refl e
    where
      by : (o : Option (List Constraint)) → rows n rules ≡ o → with_rows (clauses rules) o ≡ Some rs → Fits n rules rs
      by None q h = cc
      by (Some qs) q h = let same : map clause (clauses rules) ++ qs ≡ rs = cc in subst (Fits n rules) same (rows_fit qs q)

  pub no_system : (system n rules ≡ None) ↔ NoneKeeps n rules
  no_system =
      let c = reduction_right.contradiction n rules law in
      (λ e. c.0 (back (rows n rules) e), λ none. ap (with_rows (clauses rules)) (c.1 none))
    where
      back : (o : Option (List Constraint)) → with_rows (clauses rules) o ≡ None → o ≡ None
      back None h = refl
      back (Some rs) h = cc

pub systems_right : SystemsRight
systems_right = record { fits = λ n rules rs law. system_fits n rules law rs; contradiction = no_system }
