use Rattle.std.proofs.Common.{◌≡◌, ◌+◌, length, drop, None, Ok, sym, ap, ◌∙◌, arith}
use Rattle.std.proofs.lemmas.List.{at_drop_all}
use Rattle.std.proofs.lemmas.Result.{err_from_is_err_and}
use Rattle.rules.specs.First.{verdict}
use Rattle.writer.specs.Expansion.{clauses_of}
use Rattle.writer.specs.Writing.{first_wide, unless_wide}
use Rattle.writer.specs.Parts.{records_at}
use Rattle.writer.proofs.Counts.{counted, refused, left_at, count_more, wide_found}
use Rattle.writer.proofs.counting.count_records.Goals as goal

pub returns-in_err-records : goal.returns-in_err-records
returns-in_err-records g c =
    let rules = (g.S.Sheet.meaning c.args.sheet.now).rules in
    let i = c.loop-i.i in
    let p = err_from_is_err_and c.from_residual.result c.from_residual.ensures.1 in
    let wide = refused c.records_at.result c.fault-too_wide.result c.ok_or.result c.ok_or.ensures.value c.in_err-records.field-0.0 c.in_err-records.was in
    let at = left_at rules i (omega arith) in
    let found = sym c.loop-i.invariant.narrow ∙ ap (first_wide i) at.left ∙ wide_found i at.rule (drop (i + 1) rules) (wide.0 ∙ c.records_at.ensures.count ∙ ap records_at at.here) in
    rw (p.1, p.2, found, wide.1, c.fault-too_wide.ensures)

pub loop-i-preserved : goal.loop-i-preserved
loop-i-preserved g c =
    let rules = (g.S.Sheet.meaning c.args.sheet.now).rules in
    let i = c.loop-i.i in
    let at = left_at rules i (omega arith) in
    let told = counted c.records_at.result c.fault-too_wide.result c.ok_or.result c.ok_or.ensures.value c.in_ok-records.field-0 c.in_ok-records.was c.records_at.ensures.few in
    let more = count_more i at.rule (drop (i + 1) rules) c.in_ok-records.field-0 (told.0 ∙ c.records_at.ensures.count ∙ ap records_at at.here) in
    record {
      few = omega (arith, c.loop-i.invariant.few, told.1);
      counted = omega (arith, c.loop-i.invariant.counted, more.0, ap (λ rs. length (clauses_of rs)) at.left);
      narrow = sym more.1 ∙ sym (ap (first_wide i) at.left) ∙ c.loop-i.invariant.narrow;
    }

pub returns : goal.returns
returns g c =
    let rules = (g.S.Sheet.meaning c.args.sheet.now).rules in
    let all = length (clauses_of rules) in
    let left = at_drop_all (λ rs. length (clauses_of rs)) rules c.loop-i.i (omega arith) in
    let counted : c.loop-i.records ≡ all = omega (arith, c.loop-i.invariant.counted, left) in
    let none : first_wide 0 rules ≡ None = sym c.loop-i.invariant.narrow ∙ at_drop_all (first_wide c.loop-i.i) rules c.loop-i.i (omega arith) in
    ap Ok counted ∙ sym (ap (λ o. verdict (unless_wide o None) all) none)
