-- How many clauses a parity rule is written as, and how many records a rule takes.
use Rattle.std.proofs.Common.{◌≡◌, ℕ, zero, suc, ◌+◌, ◌*◌, ◌/◌, ◌%◌, ◌^◌, ◌<◌, ◌≤◌, Bool, true, false, not, List, [], ◌∷◌, map, length, drop, Some, None, Ok, Err, IfSome, filter, Option, Result, sym, refl, ap, ◌∙◌, arith, length-append, pow_mono}
use native.Mathlib.Nat.{two-pow-succ}
use lib.ListN.{length-map}
use Rattle.std.specs.List.{slice_get}
use Rattle.std.specs.Option.{ok_or, option_map}
use Rattle.std.proofs.lemmas.List.Elements.{filter-append}
use Rattle.std.proofs.lemmas.List.Filters.{length-filter_both}
use Rattle.std.proofs.lemmas.Bool.{lt-ltb, le-ltb, cond-true, cond-false}
use Rattle.std.proofs.lemmas.Nat.{one_shl}
use Rattle.rules.specs.declared.kinds.Side.{Side}
use Rattle.rules.specs.declared.faults.Fault.{Fault}
use Rattle.rules.specs.declared.kinds.Kind.TheVariants.{Clause}
use Rattle.rules.specs.Constraints.{Constraint, clause, parity, kind, switches, same, is_odd}
use Rattle.rules.specs.Lawful.{lawful}
use Rattle.rules.proofs.Lawfuls.{lawful_by_place}
use Rattle.sheets.specs.Meaning.{Meaning, LawfulSheet}
use Rattle.sheets.specs.Telling.{every_nth}
use Rattle.parity_theory.specs.Writing.{settings, odd_number, off_side, against, written_out}
use Rattle.writer.specs.Expansion.{clauses_of}
use Rattle.writer.specs.Writing.{first_wide}
use Rattle.writer.specs.Parts.{records_at, records_for}
use Rattle.writer.proofs.Settings.{length_settings}

length_kept_map : {X Y : Type 0} (p : Y → Bool) (f : X → Y) (xs : List X) → length (filter p (map f xs)) ≡ length (filter (λ x. p (f x)) xs)
length_kept_map p f [] = refl
length_kept_map p f (x ∷ xs) = grind (arith, length_kept_map p f xs)

-- one more switch on turns the side
turned : (a b : Bool) → not (same a (not b)) ≡ not (not (same a b))
turned a b = grind arith

-- one half of the settings break a parity rule
off_side_half : (side : Side) (n : ℕ) → length (filter (off_side side) (settings (suc n))) ≡ 2 ^ n
off_side_half side n =
    let ss : List (List Bool) = settings n in
    let off : List (List Bool) = map (λ s. false ∷ s) ss in
    let on : List (List Bool) = map (λ s. true ∷ s) ss in
    let parts = ap length (filter-append (off_side side) off on) ∙ length-append (filter (off_side side) off) (filter (off_side side) on) in
    omega (
      arith,
      length_kept_map (off_side side) (λ s. false ∷ s) ss,
      length_kept_map (off_side side) (λ s. true ∷ s) ss,
      length-filter_both (off_side side) (λ s. off_side side (true ∷ s)) (λ s. turned (is_odd side) (odd_number s)) ss,
      length_settings n,
    )

written_count : (vs : List ℕ) (side : Side) → 1 ≤ length vs → length (written_out vs side) ≡ 2 ^ length vs / 2
written_count [] side h = absurd (omega arith)
written_count (v ∷ vs) side h =
    let all = length-map (filter (off_side side) (settings (suc (length vs)))) (against (v ∷ vs)) in
    let half = off_side_half side (length vs) in
    let twice = two-pow-succ (length vs) in
    omega arith

power_small : (w : ℕ) → w ≤ 5 → 2 ^ w / 2 ≤ 16
power_small w h = let most = pow_mono {i = w} {j = 5} h in omega arith

-- a parity rule that is not too wide, by the shift that the code has
pub parity_count : (vs : List ℕ) (side : Side) (w : ℕ) → length vs ≡ w → 1 ≤ length vs → w ≤ 5 → (Some (1 * 2 ^ w % 2 ^ 64 / 2) ≡ records_for (parity vs side)) × (1 * 2 ^ w % 2 ^ 64 / 2 ≤ 16)
parity_count vs side w wide some narrow =
    let shift = one_shl w 64 (omega arith) in
    let half : length (written_out vs side) ≡ 1 * 2 ^ w % 2 ^ 64 / 2 = written_count vs side some ∙ ap (λ n. 2 ^ n / 2) wide ∙ ap (λ n. n / 2) (sym shift) in
    (sym (cond-false _ _ _ (le-ltb 5 (length vs) (omega arith)) ∙ ap Some half), omega (arith, power_small w narrow))

pub parity_wide : (vs : List ℕ) (side : Side) → 5 < length vs → None ≡ records_for (parity vs side)
parity_wide vs side wide = sym (cond-true _ _ _ (lt-ltb 5 (length vs) wide))

-- a clause takes one record
pub clause_count : (o : Option Constraint) → Some Clause ≡ option_map kind o → Some 1 ≡ records_at o
clause_count None h = cc
clause_count (Some (clause ls)) h = refl
clause_count (Some (parity vs side)) h = cc

-- a lawful rule has a switch
pub some_in : (m : Meaning) → LawfulSheet m → (i : ℕ) (r : Constraint) → Some r ≡ slice_get m.rules i → 1 ≤ length (switches r)
some_in m law i r is = (lawful_by_place m.switches r (every_nth (lawful m.switches) m.rules i r law.sound (sym is))).some

-- the rule at an index is the first of those that are left there
pub record Left (rules : List Constraint) (i : ℕ) : Type 0 where
  pub rule : Constraint
  pub here : slice_get rules i ≡ Some rule
  pub left : drop i rules ≡ rule ∷ drop (i + 1) rules

pub left_at : (rules : List Constraint) (i : ℕ) → i < length rules → Left rules i
left_at [] i h = absurd (omega arith)
left_at (r ∷ rs) zero h = record { rule = r; here = refl; left = refl }
left_at (r ∷ rs) (suc i) h =
    let l = left_at rs i (omega arith) in
    let at : suc (i + 1) ≡ suc i + 1 = omega arith in
    record { rule = l.rule; here = l.here; left = l.left ∙ ap (λ k. l.rule ∷ drop k (r ∷ rs)) at }

-- what is told of a rule, with the fault that stands for no number
module _ (o : Option ℕ) (f : Fault) (r : Result ℕ Fault) (told : r ≡ ok_or o f) where
  pub counted : (k : ℕ) → r ≡ Ok k → IfSome o (λ n. n ≤ 16) → (Some k ≡ o) × (k ≤ 16)
  counted k is few = by o told few
    where
      by : (p : Option ℕ) → r ≡ ok_or p f → IfSome p (λ n. n ≤ 16) → (Some k ≡ p) × (k ≤ 16)
      by None h few = cc
      by (Some n) h few = let same : k ≡ n = cc in (ap Some same, omega arith)

  pub refused : (e : Fault) → r ≡ Err e → (None ≡ o) × (e ≡ f)
  refused e is = by o told
    where
      by : (p : Option ℕ) → r ≡ ok_or p f → (None ≡ p) × (e ≡ f)
      by None h = (refl, cc)
      by (Some n) h = cc

-- the first of the rules that are left
module _ (i : ℕ) (r : Constraint) (rules : List Constraint) where
  pub count_more : (k : ℕ) → Some k ≡ records_for r → (length (clauses_of (r ∷ rules)) ≡ k + length (clauses_of rules)) × (first_wide i (r ∷ rules) ≡ first_wide (i + 1) rules)
  count_more k h = (grind (arith, length-append), grind arith)

  pub wide_found : None ≡ records_for r → first_wide i (r ∷ rules) ≡ Some i
  wide_found h = grind arith
