use Rattle.std.proofs.Common.{map, Some, sym, ap, ◌∙◌, ap₂}
use Rattle.rules.specs.Constraints.{clause}
use Rattle.rules.specs.Lawful.{lawful}
use Rattle.rules.specs.Views.{constraint}
use Rattle.parity_theory.specs.Equations.{equation}
use Rattle.parity_theory.specs.Recovering.{clauses, all_there}
use Rattle.parity.specs.Gathering.{recovered_by}
use Rattle.parity.proofs.Gathered.{bucket_narrow, recovered_when}
use Rattle.parity.proofs.sorted.Sorted.recovered_equation.Goals as goal

pub returns : goal.returns
returns c =
    let cs = clauses (map constraint c.args.self.now.rules.now) in
    let ls = c.literals-literals.result.now in
    let is = ap constraint c.in-Clause.is ∙ ap clause (sym c.literals-literals.ensures) in
    let law = ap (lawful 256) (sym is) ∙ c.requires in
    let made = c.parity_of-parity.ensures in
    let narrow = bucket_narrow ls c.in_ok-bucket.bucket c.in_ok-bucket.ensures in
    let found = ap₂ (all_there cs) (sym (c.switches.ensures ∙ made.switches)) (sym made.side) ∙ sym c.is_recovered.ensures ∙ c.if-not-is_recovered.false in
    ap Some (c.of.ensures ∙ ap₂ (equation 256) made.switches made.side)
    ∙ recovered_when cs ls law narrow.0 found
    ∙ ap (recovered_by cs) (sym is)
