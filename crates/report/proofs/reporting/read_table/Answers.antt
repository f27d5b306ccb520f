use Rattle.std.proofs.lemmas.Result.{err_from_is_err_and}
use Rattle.files.specs.Any.{any_file}
use Rattle.sheets.specs.Views.{tabled}
use Rattle.report.proofs.Telling.{refused_is, accepted_is}
use Rattle.report.proofs.reporting.read_table.Goals as goal

pub returns-in_err-check_any : goal.returns-in_err-check_any
returns-in_err-check_any c =
    let p = err_from_is_err_and c.from_residual.result c.from_residual.ensures.1 in
    rw (p.1, p.2) (refused_is (any_file c.args.input.now) _ c.in_err-check_any.ensures)

pub returns : goal.returns
returns c = accepted_is (any_file c.args.input.now) _ (tabled c.in_ok-table.table) c.in_ok-check_any.ensures c.in_ok-table.ensures
