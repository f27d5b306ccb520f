use Rattle.std.proofs.Common.{◌≡◌, Some, None, Option, Ok, Err, sym, ◌∙◌, subst}
use Rattle.rules.specs.declared.literals.Literal.{Literal}
use Rattle.rules.specs.Constraints.{Constraint, switches, Each}
use Rattle.rules.specs.Settings.{Within}
use Rattle.search_theory.specs.Forcing.{says, dead}
use Rattle.search.specs.Values.{part_of}
use Rattle.search.specs.Looks.{look_at}
use Rattle.search.proofs.Going.{passed_on}
use Rattle.search.specs.Passes.{each_at, look_forces, pass_more, pass_all}
use Rattle.search.proofs.looking.first_forced.Goals as goal

pub look-requires : goal.look-requires
look-requires g c =
    let f = g.R.Forcing.constraint in
    subst (λ x. Each (Within 256) (switches (f x))) (sym c.index-rules-at.is)
    (each_at (λ (r : Constraint). Each (Within 256) (switches r)) f c.args.rules.now c.loop-at.at c.index-rules-at.result c.loop-at-test.true c.requires)

pub returns-in_err-literal-clause-first : goal.returns-in_err-literal-clause-first
returns-in_err-literal-clause-first g c =
    sym (passed_on c.from_residual.result c.from_residual.ensures.0)
    ∙ pass_more g.R.Forcing.constraint c.args.rules.now c.loop-at.at (part_of c.args.part.now) c.index-rules-at.result c.loop-at-test.true c.index-rules-at.is (Err (record {})) c.in_err-literal.ensures ∙ c.loop-at.invariant

pub returns-in-Some : goal.returns-in-Some
returns-in-Some g c =
    let p = part_of c.args.part.now in
    let r = g.R.Forcing.constraint c.index-rules-at.result in
    let e = subst (λ (o : Option Literal). Ok o ≡ look_at p r) c.in-Some.is c.in_ok-literal.ensures in
    record {
      first = pass_more g.R.Forcing.constraint c.args.rules.now c.loop-at.at p c.index-rules-at.result c.loop-at-test.true c.index-rules-at.is (Ok (Some c.in-Some.literal)) e ∙ c.loop-at.invariant;
      unset = (g.met.R.Forcing.single c.index-rules-at.result p c.in-Some.literal (look_forces (dead p r) (says p r) c.in-Some.literal e)).0;
      within = c.loop-at-test.true;
    }

pub loop-at-preserved : goal.loop-at-preserved
loop-at-preserved g c =
    let p = part_of c.args.part.now in
    let r = g.R.Forcing.constraint c.index-rules-at.result in
    let e = subst (λ (o : Option Literal). Ok o ≡ look_at p r) c.in_default.is c.in_ok-literal.ensures in
    pass_more g.R.Forcing.constraint c.args.rules.now c.loop-at.at p c.index-rules-at.result c.loop-at-test.true c.index-rules-at.is (Ok None) e ∙ c.loop-at.invariant

pub returns-clause-first : goal.returns-clause-first
returns-clause-first g c = pass_all g.R.Forcing.constraint c.args.rules.now c.loop-at.at (part_of c.args.part.now) c.loop-at-test.false ∙ c.loop-at.invariant
