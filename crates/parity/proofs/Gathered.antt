-- The equations that the rules give, one rule after the other.
use Rattle.std.proofs.Common.{◌≡◌, ℕ, Iter, ◌≤◌, Bool, true, false, cond, ◌&&◌, ltb, leb, List, [], ◌∷◌, ◌++◌, map, length, take, drop, Some, None, filter, Option, option_map, sym, refl, ap, ◌∙◌, ap₂, arith}
use Rattle.std.specs.List.{filter_map, cons_option}
use Rattle.std.proofs.lemmas.List.{length-map, map-append, map_push, take-append-drop}
use Rattle.std.proofs.lemmas.Bool.{and_parts, and_from, leb-true, le-leb, ltb-false, cond-true}
use denote.Param.Members.{Mut}
use denote.Ref.{Bor}
use Rattle.std.specs.Fn.{Called}
use Rattle.std.specs.Slice.Iter.{iter_rest}
use Rattle.std.specs.Iterator.Adapters.{filter_map_source, filter_map_callee, filter_map_steps, chain_first, chain_second, chain_first_done, chain_second_done, chain_steps}
use Rattle.std.specs.declared.iter.FilterMap.{FilterMap}
use Rattle.std.specs.declared.iter.Chain.{Chain}
use Rattle.std.proofs.iter.Yields.{fronts}
use Rattle.std.proofs.lemmas.Iterator.{YieldsList, YieldsList-from_slice}
use Rattle.std.proofs.lemmas.Iterator.Consumers.{YieldsList-at, YieldsList-from_chain}
use Rattle.rules.specs.declared.literals.Literal.{Literal}
use Rattle.rules.specs.declared.rule.Rule.{Rule}
use Rattle.rules.specs.First.{every}
use Rattle.rules.specs.Constraints.{Constraint, clause, parity, switch_of, kind, Each}
use Rattle.rules.specs.Lawful.{width_fits, lawful}
use Rattle.rules.specs.Views.{constraint}
use Rattle.parity_theory.specs.Equations as theory
use Rattle.parity_theory.specs.Equations.{equation}
use Rattle.parity_theory.specs.Recovering.{clauses, named, narrow, recovers, equation_of, parities}
use Rattle.parity_theory.specs.Reducing.{Row, extended, reduce_from, reduce}
use Rattle.parity_theory.proofs.Repeats.{reduce_append, repeats}
use Rattle.parity.specs.declared.equations.Equation.{Equation}
use Rattle.parity.specs.declared.sorted.Sorted.{Sorted}
use Rattle.parity.specs.Views.{equation_in}
use Rattle.parity.specs.Buckets.{shared_bucket, bucket}
use Rattle.parity.specs.Gathering.{named_by, recovered_by}
use Rattle.parity.proofs.Filtered.{YieldsList-from_filter_map_at}

-- ---- a clause and the parity rule on its switches

clause_width : (ls : List Literal) → lawful 256 (clause ls) ≡ true → (1 ≤ length ls) × (length ls ≤ 8)
clause_width ls h =
    let p = and_parts (leb 1 (length (map switch_of ls))) (leb (length (map switch_of ls)) 8) (and_parts (width_fits (kind (clause ls)) (length (map switch_of ls))) _ h).0 in
    omega (arith, leb-true 1 (length (map switch_of ls)) p.0, leb-true (length (map switch_of ls)) 8 p.1, length-map ls switch_of)

pub recovered_when : (cs : List (List Literal)) (ls : List Literal) → lawful 256 (clause ls) ≡ true → length ls ≤ 5 → recovers cs ls ≡ true → Some (equation_of 256 ls) ≡ recovered_by cs (clause ls)
recovered_when cs ls h few rec =
    let w = clause_width ls h in
    sym (cond-true _ _ _ (and_from (narrow ls) (recovers cs ls) (and_from _ _ (le-leb 1 (length ls) w.0) (le-leb (length ls) 5 few)) rec))

-- a clause in a bucket is narrow enough to recover a rule
pub bucket_narrow : (ls : List Literal) (b : ℕ) → Some b ≡ bucket ls → (length ls ≤ 5) × (b ≡ shared_bucket (map switch_of ls))
bucket_narrow ls b e = by (ltb 5 (length ls)) refl e
  where
    by : (t : Bool) → ltb 5 (length ls) ≡ t → Some b ≡ cond t None (Some (shared_bucket (map switch_of ls))) → (length ls ≤ 5) × (b ≡ shared_bucket (map switch_of ls))
    by true k h = let z : ◌≡◌ {A = ℕ} 0 1 = cc in absurd (omega arith)
    by false k h = (ltb-false 5 (length ls) k, cc)

-- ---- all rules

-- an equation of the definitions, as the code has it
abbrev coded : theory.Equation → Equation
coded e = record { members = e.members; odd = e.odd }

coded_back : (o : Option Equation) → o ≡ option_map coded (option_map equation_in o)
coded_back None = refl
coded_back (Some e) = refl

-- the equation that a rule gives by f, as the code has it
abbrev pub given : (Constraint → Option theory.Equation) → Rule → Option Equation
given f r = option_map coded (f (constraint r))

pub is_given : (f : Constraint → Option theory.Equation) (r : Rule) (o : Option Equation) → option_map equation_in o ≡ f (constraint r) → o ≡ given f r
is_given f r o h = coded_back o ∙ ap (option_map coded) h

all_given : (f : Constraint → Option theory.Equation) (rules : List Rule) → map equation_in (filter_map (given f) rules) ≡ filter_map f (map constraint rules)
all_given f [] = refl
all_given f (r ∷ rules) = by (f (constraint r)) (all_given f rules)
  where
    by : (o : Option theory.Equation) → map equation_in (filter_map (given f) rules) ≡ filter_map f (map constraint rules) → map equation_in (cons_option (option_map coded o) (filter_map (given f) rules)) ≡ cons_option o (filter_map f (map constraint rules))
    by None ih = ih
    by (Some e) ih = ap (λ es. e ∷ es) ih

named_given : (rules : List Constraint) → filter_map named_by rules ≡ named 256 rules
named_given [] = refl
named_given (clause ls ∷ rules) = named_given rules
named_given (parity vs side ∷ rules) = ap (λ es. equation 256 vs side ∷ es) (named_given rules)

kept_twice : (cs : List (List Literal)) (ls : List Literal) (rest : List (List Literal)) → map (equation_of 256) (filter (recovers cs) (filter narrow (ls ∷ rest))) ≡ cons_option (cond (narrow ls && recovers cs ls) (Some (equation_of 256 ls)) None) (map (equation_of 256) (filter (recovers cs) (filter narrow rest)))
kept_twice cs ls rest = by (narrow ls) (recovers cs ls) refl
  where
    by : (a b : Bool) → recovers cs ls ≡ b → map (equation_of 256) (filter (recovers cs) (cond a (ls ∷ filter narrow rest) (filter narrow rest))) ≡ cons_option (cond (a && b) (Some (equation_of 256 ls)) None) (map (equation_of 256) (filter (recovers cs) (filter narrow rest)))
    by true true e = ap (λ t. map (equation_of 256) (cond t (ls ∷ filter (recovers cs) (filter narrow rest)) (filter (recovers cs) (filter narrow rest)))) e
    by true false e = ap (λ t. map (equation_of 256) (cond t (ls ∷ filter (recovers cs) (filter narrow rest)) (filter (recovers cs) (filter narrow rest)))) e
    by false b e = refl

recovered_given : (cs : List (List Literal)) (rules : List Constraint) → filter_map (recovered_by cs) rules ≡ map (equation_of 256) (filter (recovers cs) (filter narrow (clauses rules)))
recovered_given cs [] = refl
recovered_given cs (clause ls ∷ rules) = ap (cons_option (recovered_by cs (clause ls))) (recovered_given cs rules) ∙ sym (kept_twice cs ls (clauses rules))
recovered_given cs (parity vs side ∷ rules) = recovered_given cs rules

-- the equations that the rules give: first the named, then the recovered
abbrev pub all_equations : List Rule → List Equation
all_equations rules = filter_map (given named_by) rules ++ filter_map (given (recovered_by (clauses (map constraint rules)))) rules

pub all_reduced : (rules : List Rule) → reduce (map equation_in (all_equations rules)) ≡ reduce (parities 256 (map constraint rules))
all_reduced rules =
    let cs = clauses (map constraint rules) in
    ap reduce (map-append equation_in (filter_map (given named_by) rules) (filter_map (given (recovered_by cs)) rules)
    ∙ ap₂ ◌++◌ (all_given named_by rules ∙ named_given (map constraint rules)) (all_given (recovered_by cs) rules ∙ recovered_given cs (map constraint rules)))
    ∙ repeats 256 (map constraint rules)

-- each rule of a lawful list is lawful
pub each_lawful : (rules : List Rule) → every (lawful 256) (map constraint rules) ≡ true → Each (λ (r : Rule). lawful 256 (constraint r) ≡ true) rules
each_lawful [] law = tt
each_lawful (r ∷ rules) law = let p = and_parts (lawful 256 (constraint r)) (every (lawful 256) (map constraint rules)) law in (p.0, each_lawful rules p.1)

-- the sorted rules that the closure looks at
abbrev pub captured : record { 0 : Bor Sorted } → Sorted
captured w = w.0.now

-- the iterator of the named and then of the recovered equations gives them all
pub equations_come : {F : Type 0} {g : Mut F (Bor Rule × Unit {0}) (Option Equation)} {j : Mut (record { 0 : Bor Sorted }) (Bor Rule × Unit {0}) (Option Equation)} {s t : Chain (FilterMap (Iter Rule) F) (FilterMap (Iter Rule) (record { 0 : Bor Sorted }))} {n : FilterMap (Iter Rule) F} {m : FilterMap (Iter Rule) (record { 0 : Bor Sorted })} (sorted : Sorted) (rules : List Rule) → sorted.rules.now ≡ rules → every (lawful 256) (map constraint rules) ≡ true → s ≡ t → chain_first t ≡ n → chain_second t ≡ m → chain_first_done t ≡ false → chain_second_done t ≡ false → iter_rest (filter_map_source n) ≡ rules → iter_rest (filter_map_source m) ≡ rules → captured (filter_map_callee m) ≡ sorted → ((w : F) (x : Bor Rule) (r : Option Equation) (q : F) → lawful 256 (constraint x.now) ≡ true → Called g w (x, tt) r q → option_map equation_in r ≡ named_by (constraint x.now)) → ((w : record { 0 : Bor Sorted }) (x : Bor Rule) (r : Option Equation) (q : record { 0 : Bor Sorted }) → captured w ≡ sorted → lawful 256 (constraint x.now) ≡ true → Called j w (x, tt) r q → (captured q ≡ sorted) × (option_map equation_in r ≡ recovered_by (clauses (map constraint (captured w).rules.now)) (constraint x.now))) → YieldsList (chain_steps (filter_map_steps fronts g) (filter_map_steps fronts j)) (λ y. y) s (all_equations rules)
equations_come {g = g} {j = j} sorted rules over law into first second more more2 from from2 its names recovers_it =
    YieldsList-at into
    (YieldsList-from_chain
    (YieldsList-at first (YieldsList-from_filter_map_at g (λ (r : Rule). lawful 256 (constraint r) ≡ true) (given named_by) (λ _. Unit {0}) (YieldsList-from_slice rules from) tt (each_lawful rules law) (λ w x r q _ l k. (tt, is_given named_by x.now r (names w x r q l k)))))
    (YieldsList-at second (YieldsList-from_filter_map_at j (λ (r : Rule). lawful 256 (constraint r) ≡ true) (given (recovered_by (clauses (map constraint rules)))) (λ w. captured w ≡ sorted) (YieldsList-from_slice rules from2) its (each_lawful rules law)
    (λ w x r q a l k.
    let n = recovers_it w x r q a l k in
    let own = ap (λ (z : Sorted). recovered_by (clauses (map constraint z.rules.now)) (constraint x.now)) a ∙ ap (λ l. recovered_by (clauses (map constraint l)) (constraint x.now)) over in
    (n.0, is_given (recovered_by (clauses (map constraint rules))) x.now r (n.1 ∙ own)))))
    more more2)

-- ---- one more taken in

pub one_taken : (es : List Equation) (e : Equation) (rows : List Row) → Some rows ≡ reduce (map equation_in es) → extended (Some rows) (equation_in e) ≡ reduce (map equation_in (es ++ (e ∷ [])))
one_taken es e rows h =
    ap (λ r. extended r (equation_in e)) h
    ∙ sym (reduce_append (map equation_in es) (equation_in e ∷ []) (Some []))
    ∙ ap reduce (sym (map_push equation_in es e))

-- a contradiction stays
none_stays : (es : List theory.Equation) → reduce_from None es ≡ None
none_stays [] = refl
none_stays (e ∷ es) = none_stays es

pub contradicted : (all front : List Equation) (n : ℕ) → front ≡ take n all → reduce (map equation_in front) ≡ None → reduce (map equation_in all) ≡ None
contradicted all front n e h =
    ap (λ l. reduce (map equation_in l)) (sym (take-append-drop n all))
    ∙ ap reduce (map-append equation_in (take n all) (drop n all))
    ∙ reduce_append (map equation_in (take n all)) (map equation_in (drop n all)) (Some [])
    ∙ ap (λ r. reduce_from r (map equation_in (drop n all))) (ap (λ l. reduce (map equation_in l)) (sym e) ∙ h)
    ∙ none_stays (map equation_in (drop n all))
