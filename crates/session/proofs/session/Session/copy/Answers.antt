use Rattle.std.proofs.Common.{◌++◌, map, length, drop, ap, ◌∙◌, arith}
use Rattle.rules.specs.Rows.{bit}
use Rattle.parity.specs.Reductions.{standing_rules}
use Rattle.search.specs.Searches.{course_of}
use Rattle.session_theory.specs.Session.{setting_at, setting_of}
use Rattle.session.specs.Phases.{standing_of}
use Rattle.session.specs.Sessions.{session_of}
use Rattle.session.proofs.Founds.{found_long}
use Rattle.session.proofs.Copied.{found_at, copy_found, lawfully}
use Rattle.session.proofs.session.Session.copy.Goals as goal

pub returns-in-Found : goal.returns-in-Found
returns-in-Found c =
    let here = c.args.self.now in
    let s = session_of here in
    let old = c.args.out.now in
    let at = found_at here.rules.switches (standing_rules here.rules) here.standing here.search here.searched c.in-Found.is in
    let is = ap (λ p. setting_of (standing_of p (course_of here.search))) c.in-Found.is ∙ ap setting_at at.1 in
    let told = c.values.ensures ∙ c.setting.ensures.found at.0 at.1 at.2 in
    let new = c.write_values.ensures ∙ ap (λ xs. map bit xs ++ drop (length xs) old) told ∙ ap (λ k. map bit at.0 ++ drop k old) (found_long here.search at.0 at.1 ∙ at.2) in
    let happens = copy_found s old at.0 _ (omega (arith, c.from.ensures)) is new in
    record { happens = happens; lawful = lawfully _ _ _ happens }
