-- What is built is lawful, by recursion and by place.
use Rattle.std.proofs.Common.{◌≡◌, ℕ, zero, suc, ◌<◌, Bool, true, false, cond, not, ◌&&◌, eqb, leb, List, [], ◌∷◌, ◌++◌, map, length, get_or, ℤ, pos, Some, None, Ok, Err, Option, Result, sym, refl, ap, ◌∙◌, subst, ⊎_elim, arith}
use lib.ListN.{length-map}
use Rattle.std.specs.Option.{option_or}
use Rattle.std.proofs.lemmas.Bool.{cases_lt, and_parts, and_from, or_parts, not-true, leb-true, eqb-false, ne_eqb, eq-eqb, not_from_false, true≢false}
use Rattle.std.proofs.lemmas.List.{get_or-map}
use Rattle.rules.specs.declared.kinds.Kind.{Kind}
use Rattle.rules.specs.declared.kinds.Kind.TheVariants.{Clause, Parity}
use Rattle.rules.specs.declared.kinds.RawKind.{RawKind}
use Rattle.rules.specs.declared.faults.Layer.{Layer}
use Rattle.rules.specs.declared.faults.Cause.TheVariants.{Width}
use Rattle.rules.specs.declared.faults.Misfit.{Misfit}
use Rattle.rules.specs.First.{first_of, some_below, every, unless, verdict}
use Rattle.rules.specs.Constraints.{Constraint, kind, switches, switch_of}
use Rattle.rules.specs.Lawful.{width_fits, inside, absent, different, lawful, Lawful}
use Rattle.rules.specs.Faults.{fault}
use Rattle.rules.specs.Checks.{as_fault, on_err, kind_of, raw_width_fits, checked_kind, checked}
use Rattle.rules.specs.Entries.{literal, named_switch, literal_fits, named, entries_misfit, rule_misfit, rule_of, built}

some_none : {X P : Type 0} (x : X) → Some x ≡ None → P
some_none x h = let z : ◌≡◌ {A = ℕ} 0 1 = cc in absurd (omega arith)

-- a test that found nothing was passed, and so were those after it
pub passed : {X : Type 0} (b : Bool) (x : X) (later : Option X) → unless b x later ≡ None → (b ≡ true) × (later ≡ None)
passed true x later h = (refl, h)
passed false x later h = some_none x h

both_none : {X : Type 0} (a b : Option X) → option_or a b ≡ None → (a ≡ None) × (b ≡ None)
both_none None b h = (refl, h)
both_none (Some x) b h = some_none x h

pub first_all : {X : Type 0} (f : ℕ → Option X) (k : ℕ) → first_of f k ≡ None → (i : ℕ) → i < k → f i ≡ None
unfolding first_of
first_all f zero h i lt = absurd (omega arith)
first_all f (suc k) h i lt =
    let b = both_none _ _ h in
    let before = first_all f k b.0 in
    ⊎_elim (λ l. before i l) (λ l. let e : k ≡ i = omega arith in subst (λ j. f j ≡ None) e b.1) (cases_lt i k)

pub some_all : (t : ℕ → Bool) (k : ℕ) → some_below t k ≡ false → (i : ℕ) → i < k → t i ≡ false
unfolding some_below
some_all t zero h i lt = absurd (omega arith)
some_all t (suc k) h i lt =
    let b = or_parts _ _ h in
    let before = some_all t k b.0 in
    ⊎_elim (λ l. before i l) (λ l. let e : k ≡ i = omega arith in subst (λ j. t j ≡ false) e b.1) (cases_lt i k)

-- tests of a whole list, by place
pub every_from : {X : Type 0} (t : X → Bool) (xs : List X) (d : X) → ((i : ℕ) → i < length xs → t (get_or xs i d) ≡ true) → every t xs ≡ true
every_from t [] d h = refl
every_from t (x ∷ xs) d h = and_from (t x) _ (h 0 (omega arith)) (every_from t xs d (λ i lt. h (suc i) (omega arith)))

pub every_at : {X : Type 0} (t : X → Bool) (xs : List X) (d : X) → every t xs ≡ true → (i : ℕ) → i < length xs → t (get_or xs i d) ≡ true
every_at t [] d h i lt = absurd (omega arith)
every_at t (x ∷ xs) d h zero lt = (and_parts (t x) _ h).0
every_at t (x ∷ xs) d h (suc i) lt = every_at t xs d (and_parts (t x) _ h).1 i (omega arith)

absent_from : (v : ℕ) (vs : List ℕ) → ((i : ℕ) → i < length vs → v ≡ get_or vs i 0 → ⊥) → absent v vs ≡ true
absent_from v [] h = refl
absent_from v (w ∷ ws) h =
    and_from (not (eqb v w)) _ (not_from_false _ (ne_eqb v w (h 0 (omega arith)))) (absent_from v ws (λ i lt. h (suc i) (omega arith)))

absent_at : (v : ℕ) (vs : List ℕ) → absent v vs ≡ true → (i : ℕ) → i < length vs → v ≡ get_or vs i 0 → ⊥
absent_at v [] h i lt e = absurd (omega arith)
absent_at v (w ∷ ws) h zero lt e = eqb-false v w (not-true _ (and_parts (not (eqb v w)) _ h).0) e
absent_at v (w ∷ ws) h (suc i) lt e = absent_at v ws (and_parts (not (eqb v w)) _ h).1 i (omega arith) e

pub different_from : (vs : List ℕ) → ((i j : ℕ) → i < j → j < length vs → get_or vs i 0 ≡ get_or vs j 0 → ⊥) → different vs ≡ true
different_from [] h = refl
different_from (v ∷ vs) h =
    and_from (absent v vs) _
    (absent_from v vs (λ i lt. h 0 (suc i) (omega arith) (omega arith)))
    (different_from vs (λ i j lt l. h (suc i) (suc j) (omega arith) (omega arith)))

pub different_at : (vs : List ℕ) → different vs ≡ true → (i j : ℕ) → i < j → j < length vs → get_or vs i 0 ≡ get_or vs j 0 → ⊥
different_at [] h i j lt l e = absurd (omega arith)
different_at (v ∷ vs) h i zero lt l e = absurd (omega arith)
different_at (v ∷ vs) h zero (suc j) lt l e = absent_at v vs (and_parts (absent v vs) _ h).0 j (omega arith) e
different_at (v ∷ vs) h (suc i) (suc j) lt l e = different_at vs (and_parts (absent v vs) _ h).1 i j (omega arith) (omega arith) e

-- the switches of a rule from outside
map_named : (es : List ℤ) → map switch_of (map literal es) ≡ map named_switch es
map_named [] = refl
map_named (e ∷ es) = ap (λ vs. named_switch e ∷ vs) (map_named es)

pub switches_named : (k : Kind) (es : List ℤ) → switches (rule_of k es) ≡ map named_switch es
switches_named Clause es = map_named es
switches_named (Parity side) es = refl

pub kind_named : (k : Kind) (es : List ℤ) → kind (rule_of k es) ≡ k
kind_named Clause es = refl
kind_named (Parity side) es = refl

module _ (k : Kind) (n : ℕ) (es : List ℤ) (none : entries_misfit k n es ≡ None) where
  fits_at : (i : ℕ) → i < length es → (literal_fits k n (literal (get_or es i (pos 0))) ≡ true) × (named es (named_switch (get_or es i (pos 0))) i ≡ false)
  fits_at i lt =
      let a = passed (literal_fits k n (literal (get_or es i (pos 0)))) _ _ (first_all _ (length es) none i lt) in
      let b = passed (not (named es (named_switch (get_or es i (pos 0))) i)) _ _ a.1 in
      (a.0, not-true _ b.0)

  switch_at : (i : ℕ) → i < length es → get_or (map named_switch es) i 0 ≡ named_switch (get_or es i (pos 0))
  switch_at i lt = get_or-map named_switch es i (pos 0) 0 lt

  inside_all : every (inside n) (map named_switch es) ≡ true
  inside_all =
      let long = length-map es named_switch in
      every_from (inside n) (map named_switch es) 0
      (λ i lt. let l : i < length es = omega arith in ap (inside n) (switch_at i l) ∙ (and_parts (inside n (named_switch (get_or es i (pos 0)))) _ (fits_at i l).0).0)

  different_all : different (map named_switch es) ≡ true
  different_all =
      let long = length-map es named_switch in
      different_from (map named_switch es)
      (λ i j lt l e.
      let m : j < length es = omega arith in
      let o : i < length es = omega arith in
      true≢false (sym (eq-eqb _ _ (sym (switch_at i o) ∙ e ∙ switch_at j m)) ∙ some_all _ j (fits_at j m).1 i lt))

pub misfitless_lawful : (k : Kind) (n : ℕ) (es : List ℤ) → rule_misfit k n es ≡ None → lawful n (rule_of k es) ≡ true
misfitless_lawful k n es h =
    let p = passed (width_fits k (length es)) _ _ h in
    let named-so = switches_named k es in
    let wide : width_fits (kind (rule_of k es)) (length (switches (rule_of k es))) ≡ true =
    (λ t. width_fits (kind_named k es t) (length (named-so t))) ∙ ap (width_fits k) (length-map es named_switch) ∙ p.0 in
    and_from (width_fits (kind (rule_of k es)) (length (switches (rule_of k es)))) _ wide
    (subst (λ vs. (every (inside n) vs && different vs) ≡ true) (sym named-so)
    (and_from (every (inside n) (map named_switch es)) _ (inside_all k n es p.1) (different_all k n es p.1)))

pub built_lawful : (k : Kind) (n : ℕ) (es : List ℤ) (r : Constraint) → Ok r ≡ built k n es → lawful n r ≡ true
built_lawful k n es r h = by (rule_misfit k n es) refl h
  where
    by : (o : Option Misfit) → rule_misfit k n es ≡ o → Ok r ≡ verdict o (rule_of k es) → lawful n r ≡ true
    by None e h = let same : r ≡ rule_of k es = cc in ap (lawful n) same ∙ misfitless_lawful k n es e
    by (Some m) e h = let z : ◌≡◌ {A = ℕ} 0 1 = cc in absurd (omega arith)

pub lawful_by_place : (n : ℕ) (r : Constraint) → lawful n r ≡ true → Lawful n r
lawful_by_place n r h =
    let a = and_parts (width_fits (kind r) (length (switches r))) _ h in
    let w = and_parts (leb 1 (length (switches r))) _ a.0 in
    let b = and_parts (every (inside n) (switches r)) _ a.1 in
    record {
      some = leb-true _ _ w.0;
      few = leb-true _ _ w.1;
      ranged = λ i lt. let p = and_parts (leb 1 (get_or (switches r) i 0)) _ (every_at (inside n) (switches r) 0 b.0 i lt) in (leb-true _ _ p.0, leb-true _ _ p.1);
      apart = different_at (switches r) b.1;
    }

pub checked_lawful : (l : Layer) (k n : ℕ) (kind : RawKind) (es : List ℤ) (r : Constraint) → Ok r ≡ checked l k n kind es → lawful n r ≡ true
checked_lawful l k n kind es r h = by_width (raw_width_fits kind (length es)) h
  where
    never : {F : Type 0} (f : F) → Ok r ≡ Err f → lawful n r ≡ true
    never f h = let z : ◌≡◌ {A = ℕ} 0 1 = cc in absurd (omega arith)

    by_built : (k' : Kind) (o : Result Constraint Misfit) → o ≡ built k' n es → Ok r ≡ on_err (as_fault l k) o → lawful n r ≡ true
    by_built k' (Ok x) e h = let same : r ≡ x = cc in ap (lawful n) same ∙ built_lawful k' n es x e
    by_built k' (Err m) e h = never _ h

    by_kind : (o : Option Kind) → Ok r ≡ checked_kind l k o n es → lawful n r ≡ true
    by_kind None h = never _ h
    by_kind (Some k') h = by_built k' (built k' n es) refl h

    by_width : (b : Bool) → Ok r ≡ cond b (checked_kind l k (kind_of kind) n es) (Err (fault l Width k 0)) → lawful n r ≡ true
    by_width true h = by_kind (kind_of kind) h
    by_width false h = never _ h

pub every_push : {X : Type 0} (t : X → Bool) (xs : List X) (x : X) → every t xs ≡ true → t x ≡ true → every t (xs ++ x ∷ []) ≡ true
every_push t [] x h here = and_from (t x) _ here refl
every_push t (y ∷ ys) x h here = and_from (t y) _ (and_parts (t y) _ h).0 (every_push t ys x (and_parts (t y) _ h).1 here)
