-- Rows as rules: a reduced system, kept by the settings that satisfy the rows.
use Rattle.std.proofs.Common.{◌≡◌, ℕ, zero, suc, ◌-◌, ◌<◌, ◌≤◌, Bool, true, false, cond, not, ◌&&◌, eqb, ◌↔◌, List, [], ◌∷◌, map, length, sym, refl, ap, ◌∙◌, ap₂, inl, inr, true≢false, arith}
use Rattle.std.proofs.lemmas.List.{length-map}
use Rattle.std.proofs.lemmas.Bool.{cond_both, cases_eq, and_parts, and_from, eq-eqb, ne_eqb, le-leb}
use Rattle.rules.specs.First.{every}
use Rattle.rules.specs.Settings.{Setting, Within}
use Rattle.rules.specs.Constraints.{xor, same, odd_on, is_odd, kept, Each, Keeps, side_when}
use Rattle.rules.specs.Lawful.{absent}
use Rattle.rules.specs.Rows.{free, tally, Falling, Member, Apart, Reduced}
use Rattle.parity_theory.specs.Equations.{has, odd_in, satisfies}
use Rattle.parity_theory.specs.Reducing.{Row, falling, as_rule}
use Rattle.parity_theory.specs.Claims.{is_parity}
use Rattle.parity_theory.proofs.Lists.{each_map, each_zip}
use Rattle.parity_theory.proofs.Systems.{IsHighest, members_of, Disjoint, ReducedRows, fits}
use Rattle.parity_theory.proofs.Count.{Bounded, others}
use Rattle.parity_theory.proofs.Members.{Proper, tally_absent, tally_same}

-- the switches of a set from v down
falling_odd : (s : Setting) (set : List Bool) (v : ℕ) → odd_on s (falling set v) ≡ odd_in v set s
falling_odd s set zero = refl
falling_odd s set (suc v) = by (falling_odd s set v) (has set (suc v))
  where
    by : odd_on s (falling set v) ≡ odd_in v set s → (b : Bool) → odd_on s (cond b (suc v ∷ falling set v) (falling set v)) ≡ xor (b && s (suc v)) (odd_in v set s)
    by ih true = ap (xor (s (suc v))) ih
    by ih false = ih

falling_below : (b : ℕ) (set : List Bool) (v : ℕ) → v < b → Falling b (falling set v)
falling_below b set zero h = tt
falling_below b set (suc v) h = cond_both (has set (suc v)) (suc v ∷ falling set v) (falling set v) (Falling b) (λ _. (h, falling_below (suc v) set v (omega arith))) (λ _. falling_below b set v (omega arith))

falling_each : (P : ℕ → Type 0) (set : List Bool) (v : ℕ) → ((w : ℕ) → has set w ≡ true → Within v w → P w) → Each P (falling set v)
falling_each P set zero f = tt
falling_each P set (suc v) f =
    let ih = falling_each P set v (λ w e l. f w e (omega arith)) in
    cond_both (has set (suc v)) (suc v ∷ falling set v) (falling set v) (Each P) (λ e. (f (suc v) e (omega arith), ih)) (λ _. ih)

-- the sum over a set, up to its highest switch
odd_in_past : (s : Setting) (set : List Bool) (d : ℕ) → ((v : ℕ) → d < v → has set v ≡ false) → (m : ℕ) → d ≤ m → odd_in m set s ≡ odd_in d set s
odd_in_past s set d h zero l = let e : 0 ≡ d = omega arith in ap (λ k. odd_in k set s) e
odd_in_past s set d h (suc m) l =
    elim (cases_eq d (suc m)) [
      | inl e ↦ ap (λ k. odd_in k set s) (sym e)
      | inr ne ↦ ap (λ b. xor (b && s (suc m)) (odd_in m set s)) (h (suc m) (omega arith)) ∙ odd_in_past s set d h m (omega arith)
    ]

pub odd_side : (b : Bool) → is_odd (side_when b) ≡ b
odd_side true = refl
odd_side false = refl

-- a row as a rule is kept by the settings that satisfy it
row_kept : (n : ℕ) (s : Setting) (r : Row) → IsHighest (members_of r) r.dependent → Within n r.dependent → kept s (as_rule r) ≡ satisfies n s r.equation
row_kept n s r high w = ap₂ same (odd_side r.equation.odd) (by r.dependent high w ∙ sym (odd_in_past s (members_of r) r.dependent high.1 n w.1))
  where
    by : (d : ℕ) → IsHighest (members_of r) d → Within n d → odd_on s (d ∷ falling (members_of r) (d - 1)) ≡ odd_in d (members_of r) s
    by zero h l = absurd (omega arith)
    by (suc d) h l =
        let e : suc d - 1 ≡ d = omega arith in
        ap (λ k. xor (s (suc d)) (odd_on s (falling (members_of r) k))) e
        ∙ ap (xor (s (suc d))) (falling_odd s (members_of r) d)
        ∙ ap (λ b. xor (b && s (suc d)) (odd_in d (members_of r) s)) (sym h.0)

pub rows_kept : (n : ℕ) (s : Setting) (rs : List Row) → ReducedRows rs → Bounded n rs → (fits n s rs ≡ true) ↔ Keeps (map as_rule rs) s
rows_kept n s [] red b = (λ _. tt, λ _. refl)
rows_kept n s (r ∷ rs) red b =
    let ih = rows_kept n s rs red.2 b.1 in
    let e = row_kept n s r red.0 b.0 in
    (λ h. (let p = and_parts _ _ h in (e ∙ p.0, ih.0 p.1)), λ h. and_from _ _ (sym e ∙ h.0) (ih.1 h.1))

-- what is no dependent is free
free_of : (v : ℕ) (rs : List Row) → Each (λ q. q.dependent ≡ v → ⊥) rs → free (map as_rule rs) v ≡ true
free_of v [] h = refl
free_of v (q ∷ rs) h = and_from _ _ (ap not (ne_eqb q.dependent v h.0)) (free_of v rs h.1)

-- each switch of a row but its dependent is free
abbrev LowerFree : List Row → Row → Type 0
LowerFree rs q = (v : ℕ) → has (members_of q) v ≡ true → v < q.dependent → free (map as_rule rs) v ≡ true

lower_free : (rs : List Row) → ReducedRows rs → Each (LowerFree rs) rs
lower_free [] red = tt
lower_free (r ∷ rs) red = (
  (λ v e l. and_from _ _ (ap not (ne_eqb r.dependent v (λ q. omega arith))) (free_of v rs (others v r rs e red.1))),
  each_zip (Disjoint r) (LowerFree rs) (LowerFree (r ∷ rs)) later rs red.1 (lower_free rs red.2),
)
  where
    later : (q : Row) → Disjoint r q → LowerFree rs q → LowerFree (r ∷ rs) q
    later q a f v e l = and_from _ _ (ap not (ne_eqb r.dependent v (λ p. true≢false (sym e ∙ ap (has (members_of q)) (sym p) ∙ a.0)))) (f v e l)

rows_apart : (rs : List Row) → ReducedRows rs → Apart (map as_rule rs)
rows_apart [] red = tt
rows_apart (r ∷ rs) red = (free_of r.dependent rs (others r.dependent r rs red.0.0 red.1), rows_apart rs red.2)

pub rows_reduced_rules : (n : ℕ) (rs : List Row) → ReducedRows rs → Bounded n rs → Reduced n (map as_rule rs)
rows_reduced_rules n rs red b =
    record {
      members = each_map (Member n (map as_rule rs)) as_rule rs (each_zip (λ r. Within n r.dependent) (LowerFree rs) (λ r. Member n (map as_rule rs) (as_rule r)) member rs b (lower_free rs red));
      apart = rows_apart rs red;
    }
  where
    member : (r : Row) → Within n r.dependent → LowerFree rs r → Member n (map as_rule rs) (as_rule r)
    member r w f = (w, falling_below r.dependent (members_of r) (r.dependent - 1) (omega arith), falling_each _ (members_of r) (r.dependent - 1) (λ v e l. (l.0, f v e (omega arith))))

pub rows_parities : (rs : List Row) → every is_parity (map as_rule rs) ≡ true
rows_parities [] = refl
rows_parities (r ∷ rs) = rows_parities rs

-- the dependents, and how many switches are left
absent_dependents : (v : ℕ) (rs : List Row) → Each (λ q. q.dependent ≡ v → ⊥) rs → absent v (map (λ q. q.dependent) rs) ≡ true
absent_dependents v [] h = refl
absent_dependents v (q ∷ rs) h = and_from _ _ (ap not (ne_eqb v q.dependent (λ e. h.0 (sym e)))) (absent_dependents v rs h.1)

pub dependents_proper : (n : ℕ) (rs : List Row) → ReducedRows rs → Bounded n rs → Proper n (map (λ q. q.dependent) rs)
dependents_proper n [] red b = record { ranged = refl; apart = refl }
dependents_proper n (r ∷ rs) red b =
    let ih = dependents_proper n rs red.2 b.1 in
    let w = b.0 in
    record {
      ranged = and_from _ _ (and_from _ _ (le-leb 1 r.dependent w.0) (le-leb r.dependent n w.1)) ih.ranged;
      apart = and_from _ _ (absent_dependents r.dependent rs (others r.dependent r rs red.0.0 red.1)) ih.apart;
    }

eqb_turn : (a b : ℕ) → eqb a b ≡ eqb b a
eqb_turn a b = elim (cases_eq a b) [ inl e ↦ eq-eqb a b e ∙ sym (eq-eqb b a (sym e)) | inr ne ↦ ne_eqb a b ne ∙ sym (ne_eqb b a (λ e. ne (sym e))) ]

free_absent : (rs : List Row) (v : ℕ) → free (map as_rule rs) v ≡ absent v (map (λ q. q.dependent) rs)
free_absent [] v = refl
free_absent (r ∷ rs) v = ap₂ (λ a b. not a && b) (eqb_turn r.dependent v) (free_absent rs v)

pub tally_free : (n : ℕ) (rs : List Row) → ReducedRows rs → Bounded n rs → n - length (map as_rule rs) ≡ tally (free (map as_rule rs)) n
tally_free n rs red b =
    let ds = map (λ (q : Row). q.dependent) rs in
    omega (arith, tally_same (free (map as_rule rs)) (λ v. absent v ds) (free_absent rs) n, tally_absent n ds (dependents_proper n rs red b), length-map rs as_rule, length-map rs (λ (q : Row). q.dependent))
