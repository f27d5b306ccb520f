-- What a file without fault means is lawful.
use Rattle.std.proofs.Common.{◌≡◌, ℕ, zero, suc, ◌+◌, ◌≤◌, Bool, true, false, ◌&&◌, leb, List, [], ◌∷◌, length, drop, Some, None, Ok, Err, Option, Result, refl, subst, arith}
use Rattle.std.proofs.lemmas.Bool.{and_from, and_parts, leb-true}
use Rattle.rules.specs.declared.faults.Fault.{Fault}
use Rattle.rules.specs.declared.faults.Cause.TheVariants.{Head, SwitchCount}
use Rattle.rules.specs.First.{every, unless, verdict, on_ok}
use Rattle.rules.specs.Constraints.{Constraint}
use Rattle.rules.specs.Lawful.{inside, lawful}
use Rattle.sheets.specs.Meaning.{Meaning}
use Rattle.files.specs.declared.records.Flaw.{Flaw}
use Rattle.files.specs.Formats.{RuleRead, Format, SoundAt, marked}
use Rattle.sheets.specs.Tables.{over}
use Rattle.files.specs.Files.{file_fault, switches_in, head_fault, end_fault, last_record, next_record, records, body, after_head, file, LawfulFile}

-- lawful rules, and not more than `more`
LawfulRules : ℕ → ℕ → Result (List Constraint) Fault → Type 0
LawfulRules n more (Ok rules) = (every (lawful n) rules ≡ true) × (length rules ≤ more)
LawfulRules n more (Err e) = Unit {0}

no_rules : (n more : ℕ) (o : Option Fault) → LawfulRules n more (verdict o [])
unfolding LawfulRules
no_rules n more None = (refl, omega arith)
no_rules n more (Some e) = tt

with_rule : (n more : ℕ) (c : Constraint) (x : Result (List Constraint) Fault) → lawful n c ≡ true → LawfulRules n more x → LawfulRules n (suc more) (on_ok (λ rules. c ∷ rules) x)
unfolding LawfulRules
with_rule n more c (Ok rules) h hs = (and_from (lawful n c) _ h hs.0, let few = hs.1 in omega arith)
with_rule n more c (Err e) h hs = tt

-- a head without fault tells at most 256 switches
few_switches : (f : Format) (bs : List ℕ) → head_fault f bs ≡ None → switches_in bs ≤ 256
few_switches f bs h = by (leb 4 (length bs) && marked 70 f.head_byte bs) (inside 256 (switches_in bs)) refl h
  where
    by : (a b : Bool) → inside 256 (switches_in bs) ≡ b → unless a (file_fault Head 0 0) (unless b (file_fault SwitchCount 0 2) None) ≡ None → switches_in bs ≤ 256
    by true true is h = leb-true _ _ (and_parts _ _ is).1
    by true false is h = absurd (cc)
    by false b is h = absurd (cc)

module _ (f : Format) (sound : (n : ℕ) (bs : List ℕ) → SoundAt n (length bs) (f.rule_at n bs)) where
  lawful_records : (n more k p : ℕ) (rest : List ℕ) → LawfulRules n more (records f n more k p rest)
  unfolding records LawfulRules
  lawful_records n zero k p rest = by (f.rule_at n rest)
    where
      by : (o : Option (Result RuleRead Flaw)) → LawfulRules n 0 (last_record k p rest o)
      by None = no_rules n 0 (end_fault k p rest)
      by (Some r) = tt
  lawful_records n (suc more) k p rest = by (λ q l. lawful_records n more (k + 1) q l) (f.rule_at n rest) (sound n rest)
    where
      by : ((q : ℕ) (l : List ℕ) → LawfulRules n more (records f n more (k + 1) q l)) → (o : Option (Result RuleRead Flaw)) → SoundAt n (length rest) o → LawfulRules n (suc more) (next_record k p rest (records f n more (k + 1)) o)
      by later None at = no_rules n (suc more) (end_fault k p rest)
      by later (Some (Ok r)) at = with_rule n more r.rule _ at.1 (later _ _)
      by later (Some (Err e)) at = tt

  body_lawful : (n : ℕ) (bs : List ℕ) (m : Meaning) → n ≤ 256 → body f n bs ≡ Ok m → LawfulFile m
  unfolding LawfulRules
  body_lawful n bs m most h = by (records f n 1024 0 4 bs) (lawful_records n 1024 0 4 bs) h
    where
      by : (x : Result (List Constraint) Fault) → LawfulRules n 1024 x → on_ok (over n) x ≡ Ok m → LawfulFile m
      by (Err e) all h = absurd (cc)
      by (Ok rules) all h =
          let meant : over n rules ≡ m = cc in
          let few = all.1 in
          subst LawfulFile meant (record { sheet = record { narrow = most; short = omega arith; sound = all.0 }; few = few })

  pub file_lawful : (bs : List ℕ) (m : Meaning) → file f bs ≡ Ok m → LawfulFile m
  file_lawful bs m h = by (head_fault f bs) refl h
    where
      by : (o : Option Fault) → head_fault f bs ≡ o → after_head o (body f (switches_in bs) (drop 4 bs)) ≡ Ok m → LawfulFile m
      by (Some e) is h = absurd (cc)
      by None is h = body_lawful (switches_in bs) (drop 4 bs) m (few_switches f bs is) h
