use Rattle.std.proofs.Common.{◌≡◌, Some, rules}
use Rattle.std.specs.List.{slice_get}
use Rattle.rules.specs.Views.{constraint}
use Rattle.writer.proofs.Counts.{clause_count, some_in}
use Rattle.writer.proofs.counting.records_at.Goals as goal

pub returns-in-Some-Clause-clause-count : goal.returns-in-Some-Clause-clause-count
returns-in-Some-Clause-clause-count g c = clause_count (slice_get (g.S.Sheet.meaning c.args.sheet.now).rules c.args.i) (search rules)

pub records_for-requires : goal.records_for-requires
records_for-requires g c =
    let here : Some (constraint c.in-Some.rule) ≡ slice_get (g.S.Sheet.meaning c.args.sheet.now).rules c.args.i = search rules in
    some_in (g.S.Sheet.meaning c.args.sheet.now) (g.met.S.Sheet.lawful c.args.sheet.now) c.args.i (constraint c.in-Some.rule) here
