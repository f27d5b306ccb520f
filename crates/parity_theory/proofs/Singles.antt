-- There is one reduced system: rules read back as rows.
use Rattle.std.proofs.Common.{◌≡◌, ℕ, zero, suc, ◌-◌, ◌<◌, ◌≤◌, Bool, true, false, cond, not, ◌&&◌, eqb, ◌⊎◌, ◌↔◌, List, [], ◌∷◌, map, sym, refl, ap, ◌∙◌, subst, ap₂, inl, inr, true≢false, arith}
use mathlib.Core.Bool.{false≢true}
use Rattle.std.proofs.lemmas.Bool.{cases_eq, and_parts, and_from, and_left, and_right, eq-eqb, ne_eqb, eqb-false, le-leb, not-true}
use Rattle.rules.specs.declared.kinds.Side.{Side}
use Rattle.rules.specs.declared.kinds.Side.TheVariants.{Even, Odd}
use Rattle.rules.specs.First.{every}
use Rattle.rules.specs.Settings.{Setting, Within}
use Rattle.rules.specs.Constraints.{Constraint, clause, parity, is_odd, kept, Each, SomeOf, Keeps, side_when}
use Rattle.rules.specs.Lawful.{absent}
use Rattle.rules.specs.Rows.{free, Falling, Member, Apart, Reduced}
use Rattle.parity_theory.specs.Equations.{has, set_of, equation, satisfies}
use Rattle.parity_theory.specs.Reducing.{Row, row, falling, as_rule}
use Rattle.parity_theory.specs.Claims.{is_parity, SameRules}
use Rattle.parity_theory.proofs.Lists.{each_weaker, each_map, each_unmap, each_zip, each_some, each_true, some_unmap}
use Rattle.parity_theory.proofs.Systems.{IsHighest, members_of, Disjoint, ReducedRows, fits}
use Rattle.parity_theory.proofs.Bounds.{AllSized}
use Rattle.parity_theory.proofs.Members.{Proper, set_has, set_length, kept_satisfies}
use Rattle.parity_theory.proofs.Clauses.{implies_both}
use Rattle.parity_theory.proofs.Unique.{rows_there}

-- a rule that lists its switches from its dependent down
pub record Listed (n : ℕ) (d : ℕ) (vs : List ℕ) : Type 0 where
  pub within : Within n d
  pub down : Falling d vs
  pub positive : Each (λ v. 1 ≤ v) vs

abbrev pub IsRow : ℕ → Constraint → Type 0
IsRow n (clause ls) = ⊥
IsRow n (parity [] side) = ⊥
IsRow n (parity (d ∷ vs) side) = Listed n d vs

-- the switches of a falling list are below its bound, and different
absent_falling : (b v : ℕ) (vs : List ℕ) → Falling b vs → b ≤ v → absent v vs ≡ true
absent_falling b v [] h l = refl
absent_falling b v (w ∷ vs) h l = let p = h.0 in and_from _ _ (ap not (ne_eqb v w (λ e. omega arith))) (absent_falling w v vs h.1 (omega arith))

falling_proper : (n b : ℕ) (vs : List ℕ) → b ≤ suc n → Falling b vs → Each (λ v. 1 ≤ v) vs → Proper n vs
falling_proper n b [] l h p = record { ranged = refl; apart = refl }
falling_proper n b (v ∷ vs) l h p =
    let below = h.0 in
    let least = p.0 in
    let ih = falling_proper n v vs (omega arith) h.1 p.1 in
    record {
      ranged = and_from _ _ (and_from _ _ (le-leb 1 v least) (le-leb v n (omega arith))) ih.ranged;
      apart = and_from _ _ (absent_falling v v vs h.1 (omega arith)) ih.apart;
    }

listed_proper : (n d : ℕ) (vs : List ℕ) → Listed n d vs → Proper n (d ∷ vs)
listed_proper n d vs h = let w = h.within in falling_proper n (suc n) (d ∷ vs) (omega arith) (omega arith, h.down) (w.0, h.positive)

-- the list comes back from its set
falling_back : (set : List Bool) (k : ℕ) (vs : List ℕ) → Falling (suc k) vs → Each (λ v. 1 ≤ v) vs → ((v : ℕ) → Within k v → has set v ≡ not (absent v vs)) → falling set k ≡ vs
falling_back set zero [] h p f = refl
falling_back set zero (v ∷ vs) h p f = let a = h.0 in let b = p.0 in absurd (omega arith)
falling_back set (suc k) [] h p f =
    ap (λ b. cond b (suc k ∷ falling set k) (falling set k)) (f (suc k) (omega arith)) ∙ falling_back set k [] tt tt (λ v w. f v (omega arith))
falling_back set (suc k) (v ∷ vs) h p f = by (cases_eq v (suc k)) (λ ws. falling_back set k ws)
  where
    by : (v ≡ suc k) ⊎ (v ≡ suc k → ⊥) → ((ws : List ℕ) → Falling (suc k) ws → Each (λ w. 1 ≤ w) ws → ((w : ℕ) → Within k w → has set w ≡ not (absent w ws)) → falling set k ≡ ws) → falling set (suc k) ≡ v ∷ vs
    by (inl e) ih =
        let there : has set (suc k) ≡ true = f (suc k) (omega arith) ∙ ap (λ b. not (not b && absent (suc k) vs)) (eq-eqb (suc k) v (sym e)) in
        ap (λ b. cond b (suc k ∷ falling set k) (falling set k)) there
        ∙ ap₂ ◌∷◌ (sym e) (ih vs (subst (λ b. Falling b vs) e h.1) p.1 (λ w l. f w (omega arith) ∙ ap (λ b. not (not b && absent w vs)) (ne_eqb w v (λ q. omega arith))))
    by (inr ne) ih =
        let low : v < suc k = omega (arith, h.0) in
        let gone : has set (suc k) ≡ false = f (suc k) (omega arith) ∙ ap not (absent_falling (suc k) (suc k) (v ∷ vs) (low, h.1) (omega arith)) in
        ap (λ b. cond b (suc k ∷ falling set k) (falling set k)) gone ∙ ih (v ∷ vs) (low, h.1) p (λ w l. f w (omega arith))

side_back : (side : Side) → side_when (is_odd side) ≡ side
side_back Even = refl
side_back Odd = refl

-- the row of a rule
row_of : ℕ → Constraint → Row
row_of n (clause ls) = row 0 (record { members = set_of n []; odd = false })
row_of n (parity [] side) = row 0 (equation n [] side)
row_of n (parity (d ∷ vs) side) = row d (equation n (d ∷ vs) side)

rule_back : (n : ℕ) (r : Constraint) → IsRow n r → as_rule (row_of n r) ≡ r
unfolding row_of
rule_back n (clause ls) h = absurd h
rule_back n (parity [] side) h = absurd h
rule_back n (parity (zero ∷ vs) side) h = let w = h.within in absurd (omega arith)
rule_back n (parity (suc d ∷ vs) side) h = ap₂ (λ ws c. parity (suc d ∷ ws) c) (ap (falling (set_of n (suc d ∷ vs))) e ∙ falling_back (set_of n (suc d ∷ vs)) d vs h.down h.positive each) (side_back side)
  where
    e : suc d - 1 ≡ d
    e = omega arith

    each : (v : ℕ) → Within d v → has (set_of n (suc d ∷ vs)) v ≡ not (absent v vs)
    each v w = set_has n (suc d ∷ vs) (listed_proper n (suc d) vs h).ranged v ∙ ap (λ b. not (not b && absent v vs)) (ne_eqb v (suc d) (λ q. omega arith))

-- the rows of a reduced system are reduced
highest_row : (n : ℕ) (r : Constraint) → IsRow n r → IsHighest (members_of (row_of n r)) (row_of n r).dependent
unfolding row_of
highest_row n (clause ls) h = absurd h
highest_row n (parity [] side) h = absurd h
highest_row n (parity (d ∷ vs) side) h =
    let each = set_has n (d ∷ vs) (listed_proper n d vs h).ranged in
    (each d ∙ ap (λ b. not (not b && absent d vs)) (eq-eqb d d refl), λ v l. each v ∙ ap not (absent_falling (suc d) v (d ∷ vs) (omega arith, h.down) l))

absent_free : (system : List Constraint) (e : ℕ) (vs : List ℕ) → Each (λ v. (1 ≤ v) × (free system v ≡ true)) vs → free system e ≡ false → absent e vs ≡ true
absent_free system e [] h k = refl
absent_free system e (v ∷ vs) h k = and_from _ _ (ap not (ne_eqb e v (λ q. true≢false (sym h.0.1 ∙ ap (free system) (sym q) ∙ k)))) (absent_free system e vs h.1 k)

-- a row has no dependent but its own
lacks : (n : ℕ) (system : List Constraint) (r : Constraint) → IsRow n r → Member n system r → (e : ℕ) → free system e ≡ false → ((row_of n r).dependent ≡ e → ⊥) → has (members_of (row_of n r)) e ≡ false
unfolding row_of
lacks n system (clause ls) h m e k ne = absurd h
lacks n system (parity [] side) h m e k ne = absurd h
lacks n system (parity (d ∷ vs) side) h m e k ne =
    set_has n (d ∷ vs) (listed_proper n d vs h).ranged e ∙ ap not (and_from _ _ (ap not (ne_eqb e d (λ q. ne (sym q)))) (absent_free system e vs m.2 k))

-- a dependent is not free
not_free : (n : ℕ) (rs : List Constraint) → Each (IsRow n) rs → Each (λ r. free rs (row_of n r).dependent ≡ false) rs
unfolding row_of
not_free n [] h = tt
not_free n (r ∷ rs) h =
    (here r h.0, each_weaker (λ q. free rs (row_of n q).dependent ≡ false) (λ q. free (r ∷ rs) (row_of n q).dependent ≡ false) (λ q k. and_right _ _ k) rs (not_free n rs h.1))
  where
    here : (q : Constraint) → IsRow n q → free (q ∷ rs) (row_of n q).dependent ≡ false
    here (clause ls) k = absurd k
    here (parity [] side) k = absurd k
    here (parity (d ∷ vs) side) k = and_left _ _ (ap not (eq-eqb d d refl))

-- what is free in rows is the dependent of none
free_other : (n v : ℕ) (rs : List Constraint) → Each (IsRow n) rs → free rs v ≡ true → Each (λ q. (row_of n q).dependent ≡ v → ⊥) rs
unfolding row_of
free_other n v [] h f = tt
free_other n v (clause ls ∷ rs) h f = absurd h.0
free_other n v (parity [] side ∷ rs) h f = absurd h.0
free_other n v (parity (d ∷ vs) side ∷ rs) h f = let p = and_parts (not (eqb d v)) (free rs v) f in (eqb-false d v (not-true _ p.0), free_other n v rs h.1 p.1)

apart_first : (n : ℕ) (r : Constraint) (rs : List Constraint) → IsRow n r → Apart (r ∷ rs) → (free rs (row_of n r).dependent ≡ true) × Apart rs
unfolding row_of
apart_first n (clause ls) rs h a = absurd h
apart_first n (parity [] side) rs h a = absurd h
apart_first n (parity (d ∷ vs) side) rs h a = a

module _ (n : ℕ) (system : List Constraint) where
  abbrev Placed : Constraint → Type 0
  Placed r = IsRow n r × Member n system r × (free system (row_of n r).dependent ≡ false)

  disjoint : (r q : Constraint) → Placed r → Placed q → ((row_of n q).dependent ≡ (row_of n r).dependent → ⊥) → Disjoint (row_of n r) (row_of n q)
  disjoint r q hr hq ne = (lacks n system q hq.0 hq.1 (row_of n r).dependent hr.2 ne, lacks n system r hr.0 hr.1 (row_of n q).dependent hq.2 (λ e. ne (sym e)))

  all_placed : (rs : List Constraint) → Each Placed rs → Apart rs → ReducedRows (map (row_of n) rs)
  all_placed [] h a = tt
  all_placed (r ∷ rs) h a =
      let p = apart_first n r rs h.0.0 a in
      let ne = free_other n (row_of n r).dependent rs (each_weaker Placed (IsRow n) (λ q k. k.0) rs h.1) p.0 in (
        highest_row n r h.0.0,
        each_map (Disjoint (row_of n r)) (row_of n) rs (each_zip Placed (λ q. (row_of n q).dependent ≡ (row_of n r).dependent → ⊥) (λ q. Disjoint (row_of n r) (row_of n q)) (λ q k e. disjoint r q h.0 k e) rs h.1 ne),
        all_placed rs h.1 p.1,
      )

member_row : (n : ℕ) (system : List Constraint) (r : Constraint) → is_parity r ≡ true → Member n system r → IsRow n r
member_row n system (clause ls) p m = absurd (false≢true p)
member_row n system (parity [] side) p m = m
member_row n system (parity (d ∷ vs) side) p m = record { within = m.0; down = m.1; positive = each_weaker (λ v. (1 ≤ v) × (free system v ≡ true)) (λ v. 1 ≤ v) (λ v k. k.0) vs m.2 }

all_rows : (n : ℕ) (rs : List Constraint) → every is_parity rs ≡ true → Reduced n rs → Each (IsRow n) rs
all_rows n rs p red = each_zip (λ r. is_parity r ≡ true) (Member n rs) (IsRow n) (member_row n rs) rs (each_true is_parity rs p) red.members

reduced_rows : (n : ℕ) (rs : List Constraint) → every is_parity rs ≡ true → Reduced n rs → ReducedRows (map (row_of n) rs)
reduced_rows n rs p red =
    let rows = all_rows n rs p red in
    all_placed n rs rs
    (each_zip (λ r. IsRow n r × Member n rs r) (λ r. free rs (row_of n r).dependent ≡ false) (Placed n rs) (λ r a b. (a.0, a.1, b)) rs
    (each_zip (IsRow n) (Member n rs) (λ r. IsRow n r × Member n rs r) (λ r a b. (a, b)) rs rows red.members)
    (not_free n rs rows))
    red.apart

rows_sized : (n : ℕ) (rs : List Constraint) → AllSized n (map (row_of n) rs)
unfolding row_of
rows_sized n [] = tt
rows_sized n (clause ls ∷ rs) = (set_length n [], rows_sized n rs)
rows_sized n (parity [] side ∷ rs) = (set_length n [], rows_sized n rs)
rows_sized n (parity (d ∷ vs) side ∷ rs) = (set_length n (d ∷ vs), rows_sized n rs)

-- and are satisfied by the settings that keep it
row_satisfied : (n : ℕ) (s : Setting) (r : Constraint) → IsRow n r → kept s r ≡ satisfies n s (row_of n r).equation
unfolding row_of
row_satisfied n s (clause ls) h = absurd h
row_satisfied n s (parity [] side) h = absurd h
row_satisfied n s (parity (d ∷ vs) side) h = kept_satisfies n s (d ∷ vs) side (listed_proper n d vs h)

rows_fit : (n : ℕ) (s : Setting) (rs : List Constraint) → Each (IsRow n) rs → Keeps rs s ↔ (fits n s (map (row_of n) rs) ≡ true)
rows_fit n s [] h = (λ _. refl, λ _. tt)
rows_fit n s (r ∷ rs) h =
    let ih = rows_fit n s rs h.1 in
    let e = row_satisfied n s r h.0 in
    (λ k. and_from _ _ (sym e ∙ k.0) (ih.0 k.1), λ k. (let p = and_parts _ _ k in (e ∙ p.0, ih.1 p.1)))

-- so each row of one reduced system is a row of the other
module _ (n : ℕ) (rs qs : List Constraint) (par-r : every is_parity rs ≡ true) (par-q : every is_parity qs ≡ true) (red-r : Reduced n rs) (red-q : Reduced n qs) (same_kept : (s : Setting) → Keeps rs s ↔ Keeps qs s) where
  same_fit : (s : Setting) → fits n s (map (row_of n) rs) ≡ fits n s (map (row_of n) qs)
  same_fit s =
      let a = rows_fit n s rs (all_rows n rs par-r red-r) in
      let b = rows_fit n s qs (all_rows n qs par-q red-q) in
      implies_both _ _ (λ h. b.0 ((same_kept s).0 (a.1 h))) (λ h. a.0 ((same_kept s).1 (b.1 h)))

  equal_rule : (r : Constraint) → IsRow n r → SomeOf (λ q. row_of n r ≡ q) (map (row_of n) qs) → SomeOf (λ q. r ≡ q) qs
  equal_rule r h k =
      each_some (IsRow n) (λ q. row_of n r ≡ row_of n q) (λ q. r ≡ q) (λ q w e. sym (rule_back n r h) ∙ ap as_rule e ∙ rule_back n q w) qs (all_rows n qs par-q red-q)
      (some_unmap (λ q. row_of n r ≡ q) (row_of n) qs k)

  rules_there : Each (λ r. SomeOf (λ q. r ≡ q) qs) rs
  rules_there =
      each_zip (IsRow n) (λ r. SomeOf (λ q. row_of n r ≡ q) (map (row_of n) qs)) (λ r. SomeOf (λ q. r ≡ q) qs) equal_rule rs (all_rows n rs par-r red-r)
      (each_unmap (λ r. SomeOf (λ q. r ≡ q) (map (row_of n) qs)) (row_of n) rs
      (rows_there n (map (row_of n) rs) (map (row_of n) qs) (reduced_rows n rs par-r red-r) (reduced_rows n qs par-q red-q) (rows_sized n rs) (rows_sized n qs) same_fit))

pub single : (n : ℕ) (rs qs : List Constraint) → every is_parity rs ≡ true → every is_parity qs ≡ true → Reduced n rs → Reduced n qs → ((s : Setting) → Keeps rs s ↔ Keeps qs s) → SameRules rs qs
single n rs qs pr pq rr rq h = (rules_there n rs qs pr pq rr rq h, rules_there n qs rs pq pr rq rr (λ s. ((h s).1, (h s).0)))
