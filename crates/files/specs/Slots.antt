-- Lemmas for the law of the first-year format: the slots of a clause.
use Rattle.std.specs.Prelude.{◌≡◌, ℕ, suc, ◌+◌, ◌<◌, ◌≤◌, Bool, true, false, cond, List, [], ◌∷◌, length, drop, ℤ, Some, None, Option, Result, slice_index, refl}
use Rattle.std.proofs.Common.{sym, ap, ◌∙◌, arith, length-drop}
use Rattle.std.proofs.lemmas.Bool.{cond-true, leb-true, le-leb}
use Rattle.std.proofs.lemmas.List.FromFn.{length-map-range_with_len}
use Rattle.std.proofs.lemmas.Bool.Decides.{nat_tests}
use Rattle.rules.specs.declared.faults.Cause.TheVariants.{Form, Width}
use Rattle.rules.specs.declared.kinds.Kind.TheVariants.{Clause}
use Rattle.rules.specs.Entries.{built}
use Rattle.files.specs.declared.records.Flaw.{Flaw}
use Rattle.files.specs.Numbers.{entry, entries_in}
use Rattle.files.specs.Formats.{RuleRead, Sound, SoundAt, flaw, framed, clause_marked}
use Rattle.files.specs.FirstFormat.{is_empty, used_slots, filled_from, gap, unless_gap, slotted, first_clause, first_rule}
use Rattle.files.specs.Sounds.{sound_demand, sound_framed}

filled_within : (i : ℕ) (es : List ℤ) (j : ℕ) → filled_from i es ≡ Some j → j < i + length es
filled_within i [] j h = absurd (cc)
filled_within i (e ∷ es) j h = by (filled_within (i + 1) es j) (is_empty e) h
  where
    by : (filled_from (i + 1) es ≡ Some j → j < i + 1 + length es) → (b : Bool) → cond b (filled_from (i + 1) es) (Some i) ≡ Some j → j < i + suc (length es)
    by later true h = let at = later h in omega arith
    by later false h = let at : i ≡ j = cc in omega arith

pub gap_within : (es : List ℤ) (u j : ℕ) → u ≤ length es → filled_from u (drop u es) ≡ Some j → j < length es
gap_within es u j short h =
    let at = filled_within u (drop u es) j h in
    let rest = length-drop u es in
    omega arith

used_short : (es : List ℤ) → length (used_slots es) ≤ length es
used_short [] = omega arith
used_short (e ∷ es) = by (used_short es) (is_empty e)
  where
    by : length (used_slots es) ≤ length es → (b : Bool) → length (cond b [] (e ∷ used_slots es)) ≤ suc (length es)
    by more true = omega arith
    by more false = omega arith

pub slots_here : (n : ℕ) (rest : List ℕ) (es : List ℤ) → 16 ≤ length rest → es ≡ entries_in 8 rest → first_clause n rest ≡ slotted n es
slots_here n rest es long is = cond-true _ _ _ (le-leb _ _ long) ∙ ap (slotted n) (sym is)

pub clause_here : (n : ℕ) (bs : List ℕ) → 2 ≤ length bs → slice_index bs 0 ≡ 67 → slice_index bs 1 ≡ 76 → first_rule n bs ≡ Some (first_clause n (drop 2 bs))
clause_here n bs long m0 m1 =
    let mark : clause_marked bs ≡ true = grind (arith, nat_tests) in
    cond-true _ _ _ mark

sound_slotted : (n l : ℕ) (es : List ℤ) → length es ≤ 8 → 18 ≤ l → Sound n l (slotted n es)
sound_slotted n l es few long =
    sound_demand n l _ (flaw Width 2) _ (omega arith) (λ some. by (gap es) refl)
  where
    by : (o : Option ℕ) → gap es ≡ o → Sound n l (unless_gap o (framed 2 18 (built Clause n (used_slots es))))
    by None is = let short = used_short es in sound_framed n l Clause (used_slots es) 2 18 long (omega arith)
    by (Some j) is = let at = gap_within es (length (used_slots es)) j (used_short es) is in omega arith

pub first_sound : (n : ℕ) (bs : List ℕ) → SoundAt n (length bs) (first_rule n bs)
first_sound n bs = by (clause_marked bs)
  where
    by : (b : Bool) → SoundAt n (length bs) (cond {A = Option (Result RuleRead Flaw)} b (Some (first_clause n (drop 2 bs))) None)
    by true =
        sound_demand n (length bs) _ (flaw Form 0) _ (omega arith)
        (λ present. let all = leb-true 16 (length (drop 2 bs)) present in
        let rest = length-drop 2 bs in
        let eight = length-map-range_with_len (entry (drop 2 bs)) 0 8 in
        sound_slotted n (length bs) (entries_in 8 (drop 2 bs)) (omega arith) (omega arith))
    by false = tt
