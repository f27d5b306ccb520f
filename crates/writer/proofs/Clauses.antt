-- The entries of a lawful clause build that clause.
use Rattle.std.proofs.Common.{◌≡◌, ℕ, zero, suc, ◌<◌, ◌≤◌, Bool, true, false, ◌||◌, eqb, leb, List, [], ◌∷◌, map, length, get_or, pos, None, Ok, Option, sym, refl, ap, ◌∙◌, arith}
use lib.ListN.{length-map}
use Rattle.std.specs.Option.{option_or}
use Rattle.std.proofs.lemmas.List.{get_or-map}
use Rattle.std.proofs.lemmas.Bool.{and_from, le-leb, ne_eqb, cond-true}
use Rattle.rules.specs.declared.literals.Literal.{Literal}
use Rattle.rules.specs.declared.kinds.Kind.TheVariants.{Clause}
use Rattle.rules.specs.First.{first_of, some_below, verdict}
use Rattle.rules.specs.Settings.{Within}
use Rattle.rules.specs.Constraints.{clause, switch_of, Each}
use Rattle.rules.specs.Lawful.{lawful, Lawful, width_fits, inside}
use Rattle.rules.specs.Entries.{literal, named_switch, literal_fits, named, entry_misfit, rule_misfit, built}
use Rattle.rules.proofs.Lawfuls.{lawful_by_place}
use Rattle.rules.proofs.Misfits.{entry_fine}
use Rattle.writer.proofs.Entries.{entry_of, InRange, literal_entry}

none_found : {X : Type 0} (f : ℕ → Option X) (k : ℕ) → ((i : ℕ) → i < k → f i ≡ None) → first_of f k ≡ None
unfolding first_of
none_found f zero h = refl
none_found f (suc k) h = ap (λ o. option_or o (f k)) (none_found f k (λ i lt. h i (omega arith))) ∙ h k (omega arith)

none_below : (t : ℕ → Bool) (k : ℕ) → ((i : ℕ) → i < k → t i ≡ false) → some_below t k ≡ false
unfolding some_below
none_below t zero h = refl
none_below t (suc k) h = ap (λ b. b || t k) (none_below t k (λ i lt. h i (omega arith))) ∙ h k (omega arith)

each_from : {X : Type 0} (P : X → Type 0) (d : X) (xs : List X) → ((i : ℕ) → i < length xs → P (get_or xs i d)) → Each P xs
each_from P d [] h = tt
each_from P d (x ∷ xs) h = (h 0 (omega arith), each_from P d xs (λ i lt. h (suc i) (omega arith)))

-- any literal, for places past the end
abbrev none : Literal
none = record { switch = 0; on = false }

module _ (n : ℕ) (most : n ≤ 256) (ls : List Literal) (law : lawful n (clause ls) ≡ true) where
  place : Lawful n (clause ls)
  place = lawful_by_place n (clause ls) law

  switch_at : (i : ℕ) → i < length ls → get_or (map switch_of ls) i 0 ≡ (get_or ls i none).switch
  switch_at i h = get_or-map switch_of ls i none 0 h

  within_at : (i : ℕ) → i < length ls → Within n (get_or ls i none).switch
  within_at i h = let same_length = length-map ls switch_of in let at = place.ranged i (omega arith) in let e = switch_at i h in omega arith

  pub in_range : Each InRange ls
  in_range = each_from InRange none ls (λ i h. let at = within_at i h in omega arith)

  literal_at : (i : ℕ) → i < length ls → get_or ls i none ≡ literal (get_or (map entry_of ls) i (pos 0))
  literal_at i h = let at = within_at i h in sym (ap literal (get_or-map entry_of ls i none (pos 0) h) ∙ literal_entry (get_or ls i none) (omega arith))

  fits_at : (i : ℕ) → i < length ls → literal_fits Clause n (get_or ls i none) ≡ true
  fits_at i h = let at = within_at i h in and_from (inside n (get_or ls i none).switch) _ (and_from (leb 1 (get_or ls i none).switch) _ (le-leb _ _ at.0) (le-leb _ _ at.1)) refl

  unnamed_at : (i : ℕ) → i < length ls → named (map entry_of ls) (get_or ls i none).switch i ≡ false
  unnamed_at i h =
      let same_length = length-map ls switch_of in
      none_below (λ j. eqb (named_switch (get_or (map entry_of ls) j (pos 0))) (get_or ls i none).switch) i
      (λ j lt. ne_eqb _ _ (λ e. place.apart j i lt (omega arith) (switch_at j (omega arith) ∙ ap switch_of (literal_at j (omega arith)) ∙ e ∙ sym (switch_at i h))))

  fine_at : (i : ℕ) → i < length (map entry_of ls) → entry_misfit Clause n (map entry_of ls) i ≡ None
  fine_at i h =
      let long = length-map ls entry_of in
      let lt : i < length ls = omega arith in
      entry_fine Clause n (map entry_of ls) i (get_or ls i none) (literal_at i lt) (fits_at i lt) (unnamed_at i lt)

  faultless : rule_misfit Clause n (map entry_of ls) ≡ None
  faultless =
      let long = length-map ls entry_of in
      let same_length = length-map ls switch_of in
      let least = place.some in
      let widest = place.few in
      let wide : width_fits Clause (length (map entry_of ls)) ≡ true = and_from (leb 1 (length (map entry_of ls))) _ (le-leb _ _ (omega arith)) (le-leb _ _ (omega arith)) in
      cond-true _ _ _ wide ∙ none_found (entry_misfit Clause n (map entry_of ls)) (length (map entry_of ls)) fine_at

  pub clause_some : 1 ≤ length ls
  clause_some = let same_length = length-map ls switch_of in let least = place.some in omega arith

  pub clause_few : length ls ≤ 8
  clause_few = let same_length = length-map ls switch_of in let widest = place.few in omega arith

  literals_again : (ks : List Literal) → Each InRange ks → map literal (map entry_of ks) ≡ ks
  literals_again [] h = refl
  literals_again (l ∷ ks) h = (λ t. literal_entry l h.0 t ∷ literals_again ks h.1 t)

  pub built_clause : built Clause n (map entry_of ls) ≡ Ok (clause ls)
  built_clause = ap (λ o. verdict o (clause (map literal (map entry_of ls)))) faultless ∙ ap (λ ks. Ok (clause ks)) (literals_again ls in_range)
