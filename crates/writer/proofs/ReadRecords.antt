-- The records of lawful clauses, and the whole file, read back.
use Rattle.std.proofs.Common.{◌≡◌, ℕ, zero, suc, ◌+◌, ◌<◌, ◌≤◌, true, leb, List, [], ◌∷◌, ◌++◌, map, length, drop, Some, None, Ok, sym, refl, ap, ◌∙◌, arith, length-append}
use lib.ListN.{length-map}
use Rattle.std.specs.List.{flat_map}
use Rattle.std.proofs.lemmas.List.{append_assoc, drop_at}
use Rattle.std.proofs.lemmas.Bool.{and_from, le-leb, eq-eqb, cond-true}
use Rattle.rules.specs.declared.literals.Literal.{Literal}
use Rattle.rules.specs.declared.kinds.Kind.TheVariants.{Clause}
use Rattle.rules.specs.First.{verdict, on_ok}
use Rattle.rules.specs.Constraints.{clause, Each}
use Rattle.rules.specs.Lawful.{lawful, inside}
use Rattle.rules.specs.Entries.{built}
use Rattle.sheets.specs.Tables.{over}
use Rattle.files.specs.Formats.{RuleRead, framed}
use Rattle.files.specs.FirstFormat.{first_year, first_rule, slotted, unless_gap, used_slots}
use Rattle.files.specs.Files.{switches_in, head_fault, end_fault, next_record, records, after_head, body, file}
use Rattle.files.specs.Slots.{clause_here, slots_here}
use Rattle.writer.specs.Bytes.{slots, record_bytes}
use Rattle.writer.specs.Writing.{end_bytes, file_bytes}
use Rattle.writer.proofs.Slots.{length_slots, length_record}
use Rattle.writer.proofs.Entries.{two_bytes, padded, entry_of, entries_read, used_padded, gap_padded}
use Rattle.writer.proofs.Clauses.{in_range, clause_some, clause_few, built_clause}

-- a record that was read
abbrev as_clause : List Literal → RuleRead
as_clause ls = record { rule = clause ls; size = 18 }

module _ (n : ℕ) (most : n ≤ 256) where
  slots_read : (ls : List Literal) → lawful n (clause ls) ≡ true → slotted n (padded 8 ls) ≡ Ok (as_clause ls)
  slots_read ls law =
      let ranged = in_range n most ls law in
      let few = clause_few n most ls law in
      let used : used_slots (padded 8 ls) ≡ map entry_of ls = used_padded 8 ls few ranged in
      let some : leb 1 (length (used_slots (padded 8 ls))) ≡ true =
      le-leb _ _ (let long = ap length used ∙ length-map ls entry_of in let least = clause_some n most ls law in omega arith) in
      cond-true _ _ _ some
      ∙ ap (λ o. unless_gap o (framed 2 18 (built Clause n (used_slots (padded 8 ls))))) (gap_padded 8 ls few ranged)
      ∙ ap (λ es. framed 2 18 (built Clause n es)) used
      ∙ ap (framed 2 18) (built_clause n most ls law)

  record_read : (ls : List Literal) (rest : List ℕ) → lawful n (clause ls) ≡ true → first_rule n (record_bytes ls ++ rest) ≡ Some (Ok (as_clause ls))
  record_read ls rest law =
      let long : 16 ≤ length (slots 8 ls ++ rest) = omega (arith, length-append (slots 8 ls) rest, length_slots 8 ls) in
      clause_here n (record_bytes ls ++ rest) (omega arith) refl refl
      ∙ ap Some (slots_here n (slots 8 ls ++ rest) (padded 8 ls) long (sym (entries_read 8 ls rest (in_range n most ls law))) ∙ slots_read ls law)

  -- the end record tells the number of records before it
  good_end : (k p : ℕ) → k < 65536 → end_fault k p (end_bytes k) ≡ None
  good_end k p h = cond-true _ _ _ (eq-eqb _ _ (two_bytes k h))

  end_read : (more k p : ℕ) → k < 65536 → records first_year n more k p (end_bytes k) ≡ Ok []
  unfolding records
  end_read zero k p h = ap (λ o. verdict o []) (good_end k p h)
  end_read (suc more) k p h = ap (λ o. verdict o []) (good_end k p h)

  records_read : (cs : List (List Literal)) (more k p total : ℕ) → Each (λ ls. lawful n (clause ls) ≡ true) cs → length cs ≤ more → total ≡ k + length cs → total < 65536 → records first_year n more k p (flat_map record_bytes cs ++ end_bytes total) ≡ Ok (map clause cs)
  unfolding records
  records_read [] more k p total h few is small =
      let all : total ≡ k = omega arith in
      ap (λ t. records first_year n more k p (end_bytes t)) all ∙ end_read more k p (omega arith)
  records_read (c ∷ cs) zero k p total h few is small = absurd (omega arith)
  records_read (c ∷ cs) (suc more) k p total h few is small =
      let rest : List ℕ = flat_map record_bytes cs ++ end_bytes total in
      let behind : drop 18 (record_bytes c ++ rest) ≡ rest = drop_at (record_bytes c) rest 18 (length_record c) in
      ap (records first_year n (suc more) k p) (append_assoc (record_bytes c) (flat_map record_bytes cs) (end_bytes total))
      ∙ ap (next_record k p (record_bytes c ++ rest) (records first_year n more (k + 1))) (record_read c rest h.0)
      ∙ ap (λ l. on_ok (λ rules. clause c ∷ rules) (records first_year n more (k + 1) (p + 18) l)) behind
      ∙ ap (on_ok (λ rules. clause c ∷ rules)) (records_read cs more (k + 1) (p + 18) total h.1 (omega arith) (omega arith) small)

  pub file_read : (cs : List (List Literal)) → inside 256 n ≡ true → Each (λ ls. lawful n (clause ls) ≡ true) cs → length cs ≤ 1024 → file first_year (file_bytes n cs) ≡ Ok (over n (map clause cs))
  file_read cs some h few =
      let switches : switches_in (file_bytes n cs) ≡ n = two_bytes n (omega arith) in
      let head : head_fault first_year (file_bytes n cs) ≡ None = cond-true _ _ _ (and_from (leb 4 (length (file_bytes n cs))) _ (le-leb _ _ (omega arith)) (and_from (leb 2 (length (file_bytes n cs))) _ (le-leb _ _ (omega arith)) refl)) ∙ cond-true _ _ _ (ap (inside 256) switches ∙ some) in
      ap (λ o. after_head o (body first_year (switches_in (file_bytes n cs)) (drop 4 (file_bytes n cs)))) head
      ∙ ap (λ m. body first_year m (drop 4 (file_bytes n cs))) switches
      ∙ ap (on_ok (over n)) (records_read cs 1024 0 4 (length cs) h few (omega arith) (omega arith))
