use Rattle.std.proofs.Common.{sym, ◌∙◌}
use Rattle.rules.specs.Settings.{Within}
use Rattle.rules.specs.Constraints.{switch_of}
use Rattle.search.specs.Values.{part_of}
use Rattle.search.specs.Passes.{each_at}
use Rattle.search.proofs.Reading.{no_literal, literal_broken, literal_unset}
use Rattle.search.proofs.clauses.look_at_literals.Goals as goal
use Rattle.search.proofs.clauses.look_at_literals.Goals.{in-Some+else-on-literal, in-None-2}

pub get-requires : goal.get-requires
get-requires c = each_at (Within 256) switch_of c.args.literals.now c.loop-literal.literal-index no_literal c.loop-literal-test.true c.requires

pub loop-literal-preserved : goal.loop-literal-preserved
loop-literal-preserved c =
    elim c.match-get.branch [
      | in-Some+else-on-literal w ↦ literal_broken (part_of c.args.part.now) c.args.literals.now c.loop-literal.literal-index c.loop-literal-test.true c.loop-literal.unset c.match-get.unset w.in-Some.on w.unset-is (sym c.get.ensures ∙ w.in-Some.is) w.if-on-literal.false c.loop-literal.invariant
      | in-None-2 w ↦ literal_unset (part_of c.args.part.now) c.args.literals.now c.loop-literal.literal-index c.loop-literal-test.true c.loop-literal.unset c.match-get.unset (sym w.is_some.ensures ∙ w.if-is_some.false) w.unset-is (sym c.get.ensures ∙ w.in-None-2.is) c.loop-literal.invariant
    ]
