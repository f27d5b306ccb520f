-- What was written means the same when it is read back.
use Rattle.std.proofs.Common.{◌≡◌, ℕ, ◌+◌, ◌*◌, List, map, length, take, drop, Ok, sym, refl, ap, ◌∙◌, subst}
use Rattle.std.proofs.lemmas.List.{take_at}
use Rattle.rules.specs.Constraints.{clause}
use Rattle.sheets.specs.Meaning.{Meaning, LawfulSheet}
use Rattle.sheets.specs.Tables.{over}
use Rattle.text.specs.Lent.{over_front}
use Rattle.writer.specs.Expansion.{clauses_of}
use Rattle.writer.specs.Writing.{first_year_bytes}
use Rattle.writer.specs.Parts.{record_count, Writable}
use Rattle.writer.specs.ReadBack.{MeansTheSame, ReadsBack}
use Rattle.writer.proofs.Outcomes.{writable, length_written}
use Rattle.writer.proofs.ReadRecords.{file_read}
use Rattle.writer.proofs.Kept.{good_clauses, kept_clauses}

means_the_same : (m : Meaning) → LawfulSheet m → Writable m → MeansTheSame (first_year_bytes m) m
means_the_same m law w =
    record {
      read = over m.switches (map clause (clauses_of m.rules));
      passes = file_read m.switches law.narrow (clauses_of m.rules) w.some (good_clauses m.switches m.rules law.sound w.narrow) w.few;
      switches = refl;
      settings = kept_clauses m.rules;
    }

pub reads_back : (m : Meaning) → LawfulSheet m → (k : ℕ) (old new : List ℕ) → Ok k ≡ record_count m → new ≡ over_front (first_year_bytes m) old → ReadsBack m new (Ok (8 + 18 * k))
reads_back m law k old new counted put =
    let front : take (8 + 18 * k) new ≡ first_year_bytes m =
    ap (take (8 + 18 * k)) put ∙ take_at (first_year_bytes m) (drop (length (first_year_bytes m)) old) (8 + 18 * k) (length_written m old k counted) in
    subst (λ bytes. MeansTheSame bytes m) (sym front) (means_the_same m law (writable m old k counted))
