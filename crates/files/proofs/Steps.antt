-- One record of a file, by what its front is.
use Rattle.std.proofs.Common.{◌≡◌, ℕ, zero, suc, ◌+◌, ◌-◌, ◌<◌, ◌≤◌, List, [], ◌∷◌, drop, Some, None, Ok, Err, Option, Result, MatchResult, sym, refl, ap, ◌∙◌, arith}
use Rattle.std.specs.Result.{IsErrAnd}
use Rattle.std.proofs.lemmas.Result.{err_from_is_err_and}
use Rattle.rules.specs.declared.faults.Cause.TheVariants.{RuleCount}
use Rattle.rules.specs.declared.faults.Fault.{Fault}
use Rattle.rules.specs.First.{verdict, on_ok}
use Rattle.rules.specs.Views.{constraint}
use Rattle.files.specs.declared.records.RuleRecord.{RuleRecord}
use Rattle.files.specs.declared.records.Flaw.{Flaw}
use Rattle.files.specs.declared.sequence.Records.{Records}
use Rattle.files.specs.Formats.{RuleRead, Format, read_as}
use Rattle.files.specs.Files.{file_fault, end_fault, last_record, next_record, records}
use Rattle.files.specs.Reads.{left}

-- a fault is the verdict whatever the value is
pub other_value : {X Y F : Type 0} (o : Option F) (x : X) (y : Y) (e : F) → Err e ≡ verdict o x → verdict o y ≡ Err e
other_value None x y e h = cc
other_value (Some e') x y e h = cc

no_fault : {X Y F : Type 0} (o : Option F) (x : X) (y : Y) → Ok x ≡ verdict o x → verdict o y ≡ Ok y
no_fault None x y h = refl
no_fault (Some e) x y h = cc

module _ (f : Format) (n k p : ℕ) (rest : List ℕ) where
  no_rule : (more : ℕ) → f.rule_at n rest ≡ None → records f n more k p rest ≡ verdict (end_fault k p rest) []
  unfolding records
  no_rule zero h = ap (last_record k p rest) h
  no_rule (suc more) h = ap (next_record k p rest (records f n more (k + 1))) h

  too_many : (found : Result RuleRead Flaw) → f.rule_at n rest ≡ Some found → records f n 0 k p rest ≡ Err (file_fault RuleCount k p)
  unfolding records
  too_many found h = ap (last_record k p rest) h

  one_more : (found : Result RuleRead Flaw) → f.rule_at n rest ≡ Some found → k < 1024 → records f n (1024 - k) k p rest ≡ next_record k p rest (records f n (1024 - (k + 1)) (k + 1)) (Some found)
  unfolding records
  one_more found h few =
      let more : 1024 - k ≡ suc (1024 - (k + 1)) = omega arith in
      ap (λ m. records f n m k p rest) more ∙ ap (next_record k p rest (records f n (1024 - (k + 1)) (k + 1))) h

module _ (f : Format) (r : Records) where
  pub at_good_end : f.rule_at r.n r.rest.now ≡ None → Ok (tt {0}) ≡ verdict (end_fault r.rules r.place r.rest.now) (tt {0}) → left f r ≡ Ok []
  at_good_end h ends = no_rule f r.n r.rules r.place r.rest.now (1024 - r.rules) h ∙ no_fault (end_fault r.rules r.place r.rest.now) (tt {0}) [] ends

  pub at_bad_end : (e : Fault) → f.rule_at r.n r.rest.now ≡ None → Err e ≡ verdict (end_fault r.rules r.place r.rest.now) (tt {0}) → left f r ≡ Err e
  at_bad_end e h ends = no_rule f r.n r.rules r.place r.rest.now (1024 - r.rules) h ∙ other_value (end_fault r.rules r.place r.rest.now) (tt {0}) [] e ends

  pub at_limit : (found : Result RuleRead Flaw) → f.rule_at r.n r.rest.now ≡ Some found → 1024 ≤ r.rules → left f r ≡ Err (file_fault RuleCount r.rules r.place)
  at_limit found h full =
      let none : 1024 - r.rules ≡ 0 = omega arith in
      ap (λ m. records f r.n m r.rules r.place r.rest.now) none ∙ too_many f r.n r.rules r.place r.rest.now found h

  -- what its reader found at the front, where told is the same with a flaw told as a fault of the file
  pub at_flaw : (found : Result RuleRecord Flaw) (told : Result RuleRecord Fault) (e : Fault) → Some (on_ok read_as found) ≡ f.rule_at r.n r.rest.now → MatchResult found (λ x. told ≡ Ok x) (λ x. IsErrAnd told (λ d. d ≡ file_fault x.cause r.rules (r.place + x.offset))) → told ≡ Err e → r.rules < 1024 → left f r ≡ Err e
  at_flaw (Ok x) told e at given is few = cc
  at_flaw (Err x) told e at given is few =
      let same : e ≡ file_fault x.cause r.rules (r.place + x.offset) = rw is at given in
      one_more f r.n r.rules r.place r.rest.now (Err x) (sym at) few ∙ ap Err (sym same)

  pub at_rule : (found : Result RuleRecord Flaw) (told : Result RuleRecord Fault) (x : RuleRecord) (after : List ℕ) → Some (on_ok read_as found) ≡ f.rule_at r.n r.rest.now → MatchResult found (λ y. told ≡ Ok y) (λ y. IsErrAnd told (λ d. d ≡ file_fault y.cause r.rules (r.place + y.offset))) → told ≡ Ok x → after ≡ drop x.size r.rest.now → r.rules < 1024 → left f r ≡ on_ok (λ rules. constraint x.rule ∷ rules) (records f r.n (1024 - (r.rules + 1)) (r.rules + 1) (r.place + x.size) after)
  at_rule (Err y) told x after at given is cut few = let p = err_from_is_err_and told given in cc
  at_rule (Ok y) told x after at given is cut few =
      let same : y ≡ x = cc in
      one_more f r.n r.rules r.place r.rest.now (Ok (read_as y)) (sym at) few
      ∙ ap (λ z. on_ok (λ rules. constraint z.rule ∷ rules) (records f r.n (1024 - (r.rules + 1)) (r.rules + 1) (r.place + z.size) (drop z.size r.rest.now))) same
      ∙ ap (λ l. on_ok (λ rules. constraint x.rule ∷ rules) (records f r.n (1024 - (r.rules + 1)) (r.rules + 1) (r.place + x.size) l)) (sym cut)
