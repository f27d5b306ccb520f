-- A rule gathered from a sheet entry by entry.
use Rattle.std.proofs.Common.{◌≡◌, ℕ, zero, suc, ◌+◌, ◌<◌, ◌≤◌, List, [], ◌∷◌, ◌++◌, map, length, take, drop, set, Some, None, Option, sym, refl, ap, ◌∙◌, arith}
use Rattle.std.specs.List.{slice_get}
use Rattle.std.specs.Option.{option_map}
use Rattle.std.proofs.lemmas.List.{length-map, take_more_set, drop_all}
use Rattle.std.proofs.lemmas.Option.{slice_get_within}
use Rattle.rules.specs.declared.literals.Literal.{Literal}
use Rattle.rules.specs.declared.kinds.Side.{Side}
use Rattle.rules.specs.declared.kinds.Kind.{Kind}
use Rattle.rules.specs.declared.kinds.Kind.TheVariants.{Clause, Parity}
use Rattle.rules.specs.Constraints.{Constraint, clause, parity, kind, entries, switches, switch_of, positive}
use Rattle.rules.specs.Lawful.{lawful, widest}
use Rattle.rules.proofs.Lawfuls.{lawful_by_place}
use Rattle.sheets.specs.Meaning.{Meaning, LawfulSheet, entries_in, told_kind, told_entry}
use Rattle.sheets.specs.Telling.{every_nth}
use Rattle.sheets.proofs.Lefts.{left_some, left_none, taken_more, taken_all}

-- the switches of a parity rule, from the literals by which they are told
switches_back : (vs : List ℕ) → map switch_of (map positive vs) ≡ vs
switches_back [] = refl
switches_back (v ∷ vs) = ap (λ l. v ∷ l) (switches_back vs)

-- a rule is its kind with its entries
pub clause_told : (o : Option Constraint) (ls : List Literal) → option_map kind o ≡ Some Clause → ls ≡ entries_in o → Some (clause ls) ≡ o
clause_told None ls h e = cc
clause_told (Some (clause ms)) ls h e = ap (λ l. Some (clause l)) e
clause_told (Some (parity vs side)) ls h e = cc

pub parity_told : (o : Option Constraint) (vs : List ℕ) (side told : Side) → option_map kind o ≡ Some (Parity told) → vs ≡ map switch_of (entries_in o) → side ≡ told → Some (parity vs side) ≡ o
parity_told None vs side told h e is = cc
parity_told (Some (clause ls)) vs side told h e is = cc
parity_told (Some (parity ws s)) vs side told h e is = let same : vs ≡ ws = e ∙ switches_back ws in cc

length_entries : (r : Constraint) → length (entries r) ≡ length (switches r)
length_entries (clause ls) = sym (length-map ls switch_of)
length_entries (parity vs side) = length-map vs positive

-- no rule has more entries than the greatest width of its kind
pub told_few : (m : Meaning) → LawfulSheet m → (i : ℕ) (k : Kind) → told_kind m i ≡ Some k → length (entries_in (slice_get m.rules i)) ≤ widest k
told_few m law i k h = by (slice_get m.rules i) refl h
  where
    by : (o : Option Constraint) → slice_get m.rules i ≡ o → option_map kind o ≡ Some k → length (entries_in o) ≤ widest k
    by None e h = cc
    by (Some r) e h =
        let here = lawful_by_place _ r (every_nth (lawful m.switches) m.rules i r law.sound e) in
        let same : kind r ≡ k = cc in
        omega (arith, length_entries r, here.few, ap widest same)

-- an entry that is told stands within the width of its kind
pub entry_within : (m : Meaning) → LawfulSheet m → (i j : ℕ) (k : Kind) (l : Literal) → told_kind m i ≡ Some k → Some l ≡ told_entry m i j → j < widest k
entry_within m law i j k l h is = omega (arith, slice_get_within _ j l (sym is), told_few m law i k h)

-- an element of a list of which each was turned
pub nth_map : {X Y : Type 0} (f : X → Y) (xs : List X) (j : ℕ) → option_map f (slice_get xs j) ≡ slice_get (map f xs) j
nth_map f [] j = refl
nth_map f (x ∷ xs) zero = refl
nth_map f (x ∷ xs) (suc j) = nth_map f xs j

-- an array that holds the elements of a list up to a place, of which no more are left
module _ {X : Type 0} (xs ys : List X) (j : ℕ) (same : take j xs ++ drop j ys ≡ ys) where
  pub held_more : (x : X) → j < length xs → Some x ≡ slice_get ys j → take (j + 1) (set xs j x) ++ drop (j + 1) ys ≡ ys
  held_more x room is = taken_more (take j xs) (take (j + 1) (set xs j x)) x (drop j ys) (drop (j + 1) ys) ys same (take_more_set xs j x room) (left_some ys j x is)

  pub held_none : None ≡ slice_get ys j → take j xs ≡ ys
  held_none is = taken_all (take j xs) (drop j ys) ys same (left_none ys j is)

  pub held_all : (w : ℕ) → w ≡ j → length ys ≤ w → take w xs ≡ ys
  held_all w is few = ap (λ k. take k xs) is ∙ taken_all (take j xs) (drop j ys) ys same (drop_all j ys (omega arith))
