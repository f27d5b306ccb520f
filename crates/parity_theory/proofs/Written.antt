-- The clauses of a parity rule that is written out.
use Rattle.std.proofs.Common.{◌≡◌, ℕ, Bool, true, false, cond, not, eqb, ◌↔◌, List, [], ◌∷◌, map, length, filter, sym, refl, ap, ◌∙◌, ap₂, inl, inr, true≢false, arith}
use mathlib.Core.Bool.{false≢true}
use Rattle.std.proofs.Math.Bool.{not-not}
use Rattle.std.proofs.lemmas.List.{length-map}
use Rattle.std.proofs.lemmas.Bool.{cases_Bool, and_parts, or_parts, or_from, eq-eqb, ne_eqb, not-true, eqb-false}
use Rattle.rules.specs.declared.literals.Literal.{Literal}
use Rattle.rules.specs.declared.kinds.Side.{Side}
use Rattle.rules.specs.declared.kinds.Side.TheVariants.{Even, Odd}
use Rattle.rules.specs.Settings.{Setting}
use Rattle.rules.specs.Constraints.{clause, parity, xor, same, switch_of, some_kept, odd_on, is_odd, kept, Each, Keeps, side_when}
use Rattle.rules.specs.Lawful.{absent, different}
use Rattle.parity_theory.specs.Writing.{settings, odd_number, off_side, against, written_out}
use Rattle.parity_theory.specs.Recovering.{odd_negations, side_of}
use Rattle.parity_theory.proofs.Lists.{each_weaker, each_map, each_kept, each_kept_at, each_unmap, each_at}
use Rattle.parity_theory.proofs.Settings.{settings_sized, settings_all}

-- the values that a setting has on a list of switches
odd_values : (s : Setting) (vs : List ℕ) → odd_number (map s vs) ≡ odd_on s vs
odd_values s [] = refl
odd_values s (v ∷ vs) = ap (xor (s v)) (odd_values s vs)

pub off_side_values : (s : Setting) (vs : List ℕ) (side : Side) → off_side side (map s vs) ≡ not (kept s (parity vs side))
off_side_values s vs side = ap (λ b. not (same (is_odd side) b)) (odd_values s vs)

-- the clause against values: its switches, its side, and what breaks it
pub against_switches : (vs : List ℕ) (bs : List Bool) → length bs ≡ length vs → map switch_of (against vs bs) ≡ vs
against_switches [] bs h = refl
against_switches (v ∷ vs) [] h = absurd (omega arith)
against_switches (v ∷ vs) (b ∷ bs) h = ap (λ ws. v ∷ ws) (against_switches vs bs (omega arith))

against_negations : (vs : List ℕ) (bs : List Bool) → length bs ≡ length vs → odd_negations (against vs bs) ≡ odd_number bs
against_negations [] [] h = refl
against_negations [] (b ∷ bs) h = absurd (omega arith)
against_negations (v ∷ vs) [] h = absurd (omega arith)
against_negations (v ∷ vs) (b ∷ bs) h = ap₂ xor (not-not b) (against_negations vs bs (omega arith))

pub side_against : (side : Side) (b : Bool) → not (same (is_odd side) b) ≡ true → side_when (not b) ≡ side
side_against Even true h = refl
side_against Even false h = absurd (false≢true h)
side_against Odd true h = absurd (false≢true h)
side_against Odd false h = refl

pub against_side : (vs : List ℕ) (side : Side) (bs : List Bool) → length bs ≡ length vs → off_side side bs ≡ true → side_of (against vs bs) ≡ side
against_side vs side bs h off = ap (λ b. side_when (not b)) (against_negations vs bs h) ∙ side_against side (odd_number bs) off

same_not : (b : Bool) → same (not b) b ≡ false
same_not true = refl
same_not false = refl

pub against_broken : (s : Setting) (vs : List ℕ) → some_kept s (against vs (map s vs)) ≡ false
against_broken s [] = refl
against_broken s (v ∷ vs) = or_from _ _ (same_not (s v)) (against_broken s vs)

not_same : (a b : Bool) → same (not b) a ≡ false → a ≡ b
not_same a b h = grind arith

broken_values : (s : Setting) (vs : List ℕ) (bs : List Bool) → length bs ≡ length vs → some_kept s (against vs bs) ≡ false → map s vs ≡ bs
broken_values s [] [] h k = refl
broken_values s [] (b ∷ bs) h k = absurd (omega arith)
broken_values s (v ∷ vs) [] h k = absurd (omega arith)
broken_values s (v ∷ vs) (b ∷ bs) h k = let p = or_parts _ _ k in ap₂ ◌∷◌ (not_same (s v) b p.0) (broken_values s vs bs (omega arith) p.1)

-- a setting that has given values on different switches
abbrev pub having : List ℕ → List Bool → Setting
having [] bs u = false
having (v ∷ vs) [] u = false
having (v ∷ vs) (b ∷ bs) u = cond (eqb u v) b (having vs bs u)

values_kept : (v : ℕ) (b : Bool) (s : Setting) (ws : List ℕ) → absent v ws ≡ true → map (λ u. cond (eqb u v) b (s u)) ws ≡ map s ws
values_kept v b s [] h = refl
values_kept v b s (w ∷ ws) h =
    let p = and_parts (not (eqb v w)) (absent v ws) h in
    let ne = ne_eqb w v (λ e. eqb-false v w (not-true (eqb v w) p.0) (sym e)) in
    rw (ne, values_kept v b s ws p.1)

pub having_values : (vs : List ℕ) (bs : List Bool) → different vs ≡ true → length bs ≡ length vs → map (having vs bs) vs ≡ bs
having_values [] [] d h = refl
having_values [] (b ∷ bs) d h = absurd (omega arith)
having_values (v ∷ vs) [] d h = absurd (omega arith)
having_values (v ∷ vs) (b ∷ bs) d h =
    let p = and_parts (absent v vs) (different vs) d in
    ap₂ ◌∷◌ (ap (λ t. cond t b (having vs bs v)) (eq-eqb v v refl)) (values_kept v b (having vs bs) vs p.0 ∙ having_values vs bs p.1 (omega arith))

-- every clause that is written out, and the one against each setting that breaks the rule
module _ (P : List Literal → Type 0) (vs : List ℕ) (side : Side) where
  pub written_each : ((bs : List Bool) → length bs ≡ length vs → off_side side bs ≡ true → P (against vs bs)) → Each P (written_out vs side)
  written_each f =
      each_map P (against vs) (filter (off_side side) (settings (length vs)))
      (each_kept (λ bs. P (against vs bs)) (off_side side) (settings (length vs)) (each_weaker (λ bs. length bs ≡ length vs) _ f (settings (length vs)) (settings_sized (length vs))))

  pub written_at : Each P (written_out vs side) → (s : Setting) → kept s (parity vs side) ≡ false → P (against vs (map s vs))
  written_at h s k =
      each_at (λ bs. off_side side bs ≡ true → P (against vs bs)) (map s vs) (settings (length vs))
      (each_kept_at (λ bs. P (against vs bs)) (off_side side) (settings (length vs)) (each_unmap P (against vs) (filter (off_side side) (settings (length vs))) h))
      (settings_all (length vs) (map s vs) (length-map vs s))
      (off_side_values s vs side ∙ ap not k)

-- written out, the rule is kept by the same settings
pub written : (vs : List ℕ) (side : Side) (s : Setting) → Keeps (map clause (written_out vs side)) s ↔ (kept s (parity vs side) ≡ true)
written vs side s = (forth, back)
  where
    forth : Keeps (map clause (written_out vs side)) s → kept s (parity vs side) ≡ true
    forth h =
        elim (cases_Bool (kept s (parity vs side))) [
          | inl e ↦ e
          | inr e ↦ absurd (true≢false (sym (written_at (λ c. some_kept s c ≡ true) vs side (each_unmap (λ r. kept s r ≡ true) clause (written_out vs side) h) s e) ∙ against_broken s vs))
        ]

    back : kept s (parity vs side) ≡ true → Keeps (map clause (written_out vs side)) s
    back h = each_map (λ r. kept s r ≡ true) clause (written_out vs side) (written_each (λ c. some_kept s c ≡ true) vs side one)
      where
        one : (bs : List Bool) → length bs ≡ length vs → off_side side bs ≡ true → some_kept s (against vs bs) ≡ true
        one bs l off =
            elim (cases_Bool (some_kept s (against vs bs))) [
              | inl e ↦ e
              | inr e ↦ absurd (true≢false (sym off ∙ ap (off_side side) (sym (broken_values s vs bs l e)) ∙ off_side_values s vs side ∙ ap not h))
            ]
