use Rattle.std.proofs.Common.{◌<◌, ◌∙◌, arith}
use Rattle.std.proofs.lemmas.List.{take_all}
use Rattle.writer.proofs.Values.{whole, length_whole, against_more}
use Rattle.writer.proofs.patterns.clause_against.Goals as goal

pub loop-j-preserved : goal.loop-j-preserved
loop-j-preserved c =
    let room : c.loop-j.clause.width < 8 = omega (arith, c.requires, c.loop-j.invariant.width, c.loop-j-test.true) in
    record {
      width = c.push.ensures.width room ∙ (let w = c.loop-j.invariant.width in omega arith);
      literals = against_more c.args.switches.now c.args.pattern c.loop-j.j c.is_on.result _ _ c.loop-j-test.true c.is_on.ensures c.loop-j.invariant.literals (c.push.ensures.more room);
    }

pub returns : goal.returns
returns c =
    let long = length_whole c.args.switches.now c.args.pattern in
    c.loop-j.invariant.literals ∙ take_all c.loop-j.j (whole c.args.switches.now c.args.pattern) (omega arith)
