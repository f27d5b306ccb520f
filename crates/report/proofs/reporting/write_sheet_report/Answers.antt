use Rattle.std.proofs.Common.{subst}
use Rattle.text.specs.Lent.{WrittenOr}
use Rattle.session.specs.Sessions.{session_of}
use Rattle.report.proofs.Telling.{told_lines}
use Rattle.report.proofs.reporting.write_sheet_report.Goals as goal

pub returns : goal.returns
returns g c =
    let m = g.S.Sheet.meaning c.args.sheet.now in
    let told = told_lines m (session_of c.in_ok-session.session) _ _ _ _ _ _ _ c.in_ok-session.ensures.opened c.switches.ensures c.count.ensures c.freedom-freedom.ensures.happens c.settle-settled.ensures.happens in
    subst (λ bs. WrittenOr bs c.args.out.now c.write_text.new.out c.write_text.result) told c.write_text.ensures
