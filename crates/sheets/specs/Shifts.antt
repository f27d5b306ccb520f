-- Lemmas for the law of a placing: a sheet with a number added to each switch number.
use Rattle.std.specs.Prelude.{◌≡◌, ℕ, ◌+◌, ◌≤◌, Bool, true, not, List, [], ◌∷◌, map, length, Some, None, Option, ◌==◌, refl}
use Rattle.std.proofs.Common.{sym, ap, ◌∙◌, arith}
use Rattle.std.proofs.lemmas.List.{length-map}
use Rattle.std.specs.List.{slice_get}
use Rattle.std.proofs.lemmas.Option.{slice_get-map}
use Rattle.std.specs.Option.{option_map}
use Rattle.std.proofs.lemmas.Bool.{and_parts, and_from, cond_both, cond-true, leb-true}
use Rattle.std.proofs.lemmas.Bool.Decides.{nat_tests}
use Rattle.rules.specs.declared.literals.Literal.{Literal}
use Rattle.rules.specs.First.{every}
use Rattle.rules.specs.Constraints.{Constraint, clause, parity, kind, switches, entries, switch_of, positive}
use Rattle.rules.specs.Lawful.{lawful, width_fits, inside, absent, different}
use Rattle.sheets.specs.Meaning.{Meaning, LawfulSheet, blank, told_entry, entries_in}
use Rattle.sheets.specs.Piles.{shifted, shifted_rule, shifted_sheet, has_room, placed}
use Rattle.sheets.specs.Telling.{every_nth}

pub every_map : {X Y : Type 0} (t : X → Bool) (u : Y → Bool) (f : X → Y) → ((x : X) → t x ≡ true → u (f x) ≡ true) → (xs : List X) → every t xs ≡ true → every u (map f xs) ≡ true
every_map t u f imp [] h = refl
every_map t u f imp (x ∷ xs) h =
    let a = and_parts (t x) (every t xs) h in
    and_from (u (f x)) _ (imp x a.0) (every_map t u f imp xs a.1)

absent_shifted : (k v : ℕ) (vs : List ℕ) → absent v vs ≡ true → absent (v + k) (map (λ w. w + k) vs) ≡ true
absent_shifted k v [] h = refl
absent_shifted k v (w ∷ ws) h =
    let a = and_parts (not (v == w)) (absent v ws) h in
    and_from (not (v + k == w + k)) _ (grind (arith, nat_tests)) (absent_shifted k v ws a.1)

different_shifted : (k : ℕ) (vs : List ℕ) → different vs ≡ true → different (map (λ v. v + k) vs) ≡ true
different_shifted k [] h = refl
different_shifted k (v ∷ vs) h =
    let a = and_parts (absent v vs) (different vs) h in
    and_from (absent (v + k) (map (λ w. w + k) vs)) _ (absent_shifted k v vs a.0) (different_shifted k vs a.1)

switches_literals : (k : ℕ) (ls : List Literal) → map switch_of (map (shifted k) ls) ≡ map (λ v. v + k) (map switch_of ls)
switches_literals k [] = refl
switches_literals k (l ∷ ls) = ap (λ vs. (l.switch + k) ∷ vs) (switches_literals k ls)

switches_shifted : (k : ℕ) (r : Constraint) → switches (shifted_rule k r) ≡ map (λ v. v + k) (switches r)
switches_shifted k (clause ls) = switches_literals k ls
switches_shifted k (parity vs side) = refl

kind_shifted : (k : ℕ) (r : Constraint) → kind (shifted_rule k r) ≡ kind r
kind_shifted k (clause ls) = refl
kind_shifted k (parity vs side) = refl

entries_positive : (k : ℕ) (vs : List ℕ) → map positive (map (λ v. v + k) vs) ≡ map (shifted k) (map positive vs)
entries_positive k [] = refl
entries_positive k (v ∷ vs) = ap (λ ls. positive (v + k) ∷ ls) (entries_positive k vs)

entries_shifted : (k : ℕ) (r : Constraint) → entries (shifted_rule k r) ≡ map (shifted k) (entries r)
entries_shifted k (clause ls) = refl
entries_shifted k (parity vs side) = entries_positive k vs

lawful_shifted : (k n : ℕ) (r : Constraint) → lawful n r ≡ true → lawful (n + k) (shifted_rule k r) ≡ true
lawful_shifted k n r h =
    let a = and_parts (width_fits (kind r) (length (switches r))) _ h in
    let b = and_parts (every (inside n) (switches r)) _ a.1 in
    let one : (v : ℕ) → inside n v ≡ true → inside (n + k) (v + k) ≡ true = λ v e. grind (arith, nat_tests) in
    let there = switches_shifted k r in
    let wide : width_fits (kind (shifted_rule k r)) (length (switches (shifted_rule k r))) ≡ true =
    (λ t. width_fits (kind_shifted k r t) (length (there t))) ∙ ap (width_fits (kind r)) (length-map (switches r) (λ v. v + k)) ∙ a.0 in
    and_from (width_fits (kind (shifted_rule k r)) (length (switches (shifted_rule k r)))) _ wide
    (and_from (every (inside (n + k)) (switches (shifted_rule k r))) _
    (ap (every (inside (n + k))) there ∙ every_map (inside n) (inside (n + k)) (λ v. v + k) one (switches r) b.0)
    (ap different there ∙ different_shifted k (switches r) b.1))

shifted_lawful : (m : Meaning) (k : ℕ) → m.switches + k ≤ 256 → LawfulSheet m → LawfulSheet (shifted_sheet k m)
shifted_lawful m k fit w =
    record {
      narrow = fit;
      short = simp length-map w.short;
      sound = every_map (lawful m.switches) (lawful (m.switches + k)) (shifted_rule k) (lawful_shifted k m.switches) m.rules w.sound;
    }

pub blank_lawful : LawfulSheet blank
blank_lawful = record { narrow = omega arith; short = omega arith; sound = refl }

pub placed_lawful : (m : Meaning) (k : ℕ) → LawfulSheet m → LawfulSheet (placed m k)
placed_lawful m k w = cond_both (has_room m k) (shifted_sheet k m) blank LawfulSheet (λ e. shifted_lawful m k (leb-true (m.switches + k) 256 e) w) (λ _. blank_lawful)

-- what a shifted sheet tells
told_entry_shifted : (m : Meaning) (k i j : ℕ) → told_entry (shifted_sheet k m) i j ≡ option_map (shifted k) (told_entry m i j)
told_entry_shifted m k i j = ap (λ o. slice_get (entries_in o) j) (slice_get-map (shifted_rule k) m.rules i) ∙ same (slice_get m.rules i)
  where
    same : (o : Option Constraint) → slice_get (entries_in (option_map (shifted_rule k) o)) j ≡ option_map (shifted k) (slice_get (entries_in o) j)
    same None = refl
    same (Some r) = ap (λ es. slice_get es j) (entries_shifted k r) ∙ slice_get-map (shifted k) (entries r) j

pub told_entry_placed : (m : Meaning) (k i j : ℕ) → has_room m k ≡ true → told_entry (placed m k) i j ≡ option_map (shifted k) (told_entry m i j)
told_entry_placed m k i j e = ap (λ x. told_entry x i j) (cond-true (has_room m k) (shifted_sheet k m) blank e) ∙ told_entry_shifted m k i j

entries_inside : (n : ℕ) (r : Constraint) → every (inside n) (switches r) ≡ true → (j : ℕ) (l : Literal) → slice_get (entries r) j ≡ Some l → inside n l.switch ≡ true
entries_inside n (clause ls) h j l e = every_nth (inside n) (map switch_of ls) j l.switch h (slice_get-map switch_of ls j ∙ ap (option_map switch_of) e)
entries_inside n (parity vs side) h j l e = by (slice_get vs j) refl (sym (slice_get-map positive vs j) ∙ e)
  where
    by : (o : Option ℕ) → slice_get vs j ≡ o → option_map positive o ≡ Some l → inside n l.switch ≡ true
    by None at p = cc
    by (Some v) at p = let same : l ≡ positive v = cc in ap (λ (x : Literal). inside n x.switch) same ∙ every_nth (inside n) vs j v h at

-- the switch of an entry is one of the sheet's
pub told_inside : (m : Meaning) (i j : ℕ) (l : Literal) → LawfulSheet m → told_entry m i j ≡ Some l → l.switch ≤ m.switches
told_inside m i j l w e = by (slice_get m.rules i) refl e
  where
    by : (o : Option Constraint) → slice_get m.rules i ≡ o → slice_get (entries_in o) j ≡ Some l → l.switch ≤ m.switches
    by None at e = cc
    by (Some r) at e =
        let here = every_nth (lawful m.switches) m.rules i r w.sound at in
        let rest = (and_parts (width_fits (kind r) (length (switches r))) _ here).1 in
        let in_all = (and_parts (every (inside m.switches) (switches r)) _ rest).0 in
        let this = entries_inside m.switches r in_all j l e in
        grind (arith, nat_tests)
