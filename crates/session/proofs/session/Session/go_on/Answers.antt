use Rattle.std.proofs.Common.{refl, ap, ◌∙◌}
use Rattle.parity.specs.Reductions.{standing_rules}
use Rattle.search.specs.Searches.{course_of}
use Rattle.session.proofs.Settles.{went_on}
use Rattle.session.proofs.session.Session.go_on.Goals as goal

pub returns : goal.returns
returns c =
    let s = c.args.self.now in
    let after = c.go_on-progress.new.self in
    let size = ap (λ x. x.switches) c.go_on-progress.ensures.same ∙ c.requires.size in
    went_on s.rules.switches s.count (standing_rules s.rules) s.standing (course_of s.search) s.search.system c.requires c.args.budget (course_of s.search) (course_of after)
    c.go_on-progress.result c.go_on-progress.ensures.goes _ c.told.ensures refl _ c.from-self.ensures
