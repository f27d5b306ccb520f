use Rattle.std.proofs.Common.{sym, ap, length, arith}
use Rattle.std.proofs.lemmas.Option.{slice_get_within}
use Rattle.rules.specs.Views.{constraint}
use Rattle.sheets.proofs.Lefts.{left_some, left_none}
use Rattle.sheets.proofs.rules_of.RulesIterator.next.Goals as goal

pub returns-in_err-rule-clause-steps : goal.returns-in_err-rule-clause-steps
returns-in_err-rule-clause-steps g c =
    let none = left_none (g.S.Sheet.meaning c.args.self.now.sheet.now).rules c.args.self.now.next c.in_err-rule.ensures in
    rw c.from_residual.ensures (none, none)

pub overflow_add-self : goal.overflow_add-self
overflow_add-self g c =
    let m = g.S.Sheet.meaning c.args.self.now.sheet.now in
    let law = g.met.S.Sheet.lawful c.args.self.now.sheet.now in
    omega (arith, slice_get_within m.rules c.args.self.now.next (constraint c.in_ok-rule.rule) (sym c.in_ok-rule.ensures), law.short)

pub returns-clause-steps : goal.returns-clause-steps
returns-clause-steps g c =
    let m = g.S.Sheet.meaning c.args.self.now.sheet.now in
    left_some m.rules c.args.self.now.next (constraint c.in_ok-rule.rule) c.in_ok-rule.ensures

pub returns-clause-goes : goal.returns-clause-goes
returns-clause-goes g c =
    let m = g.S.Sheet.meaning c.args.self.now.sheet.now in
    let step = left_some m.rules c.args.self.now.next (constraint c.in_ok-rule.rule) c.in_ok-rule.ensures in
    record { on = λ _. (tt, tt, omega (arith, ap length step)); keeps = tt; rests = λ _. tt }
