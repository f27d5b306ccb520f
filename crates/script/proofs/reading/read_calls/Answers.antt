use Rattle.std.proofs.Common.{map, vec_items, sym, ap, ◌∙◌, rules}
use Rattle.std.proofs.lemmas.List.{map_push}
use Rattle.std.proofs.lemmas.Result.{err_from_is_err_and}
use Rattle.script.specs.Asked.{asked}
use Rattle.script.specs.Records.{read_as}
use Rattle.script.proofs.Walk.{start, onward, failed, ended, overlong, known_as}
use Rattle.script.proofs.reading.read_calls.Goals as goal

pub loop-i-init : goal.loop-i-init
loop-i-init c =
    let fresh = c.in_ok-calls.ensures in
    (known_as _ _ (ap (map asked) (sym fresh.items)) (start c.args.count c.args.bytes.now), fresh.len, search rules)

pub returns-in_err-record : goal.returns-in_err-record
returns-in_err-record c =
    let p = err_from_is_err_and c.from_residual-in_err-record.result c.from_residual-in_err-record.ensures.1 in
    rw (p.1, p.2) (failed c.loop-i.invariant.0 _ c.loop-i-test.true c.in_err-record.ensures)

pub loop-i-preserved : goal.loop-i-preserved
loop-i-preserved c =
    let record_read = c.in_ok-record.record in (
      known_as _ _ (sym (ap (map asked) c.push_reserved.ensures.items ∙ map_push asked (vec_items c.loop-i.calls) record_read.call))
          (onward c.loop-i.invariant.0 (read_as record_read) c.loop-i-test.true c.in_ok-record.ensures),
      search rules,
      search rules,
    )

pub returns-then-not-is_empty : goal.returns-then-not-is_empty
returns-then-not-is_empty c = overlong c.loop-i.invariant.0 c.loop-i-test.false (sym c.if-not-is_empty.ensures)

pub returns : goal.returns
returns c = ended c.loop-i.invariant.0 c.loop-i-test.false (sym c.if-not-is_empty.ensures)
