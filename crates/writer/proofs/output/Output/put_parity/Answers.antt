use Rattle.std.proofs.Common.{length}
use Rattle.writer.proofs.Puts.{puts_none}
use Rattle.writer.proofs.Settings.{within, pattern_room, pattern_put, patterns_put}
use Rattle.writer.proofs.output.Output.put_parity.Goals as goal
use Rattle.writer.proofs.output.Output.put_parity.Goals.{then-breaks, else-breaks}

pub put_clause-requires : goal.put_clause-requires
put_clause-requires c =
    let vs = c.switches-named.result.now in
    let in_range = within vs _ c.args.rule.now.side c.switches-named.ensures c.requires.narrow c.args.self.now c.loop-pattern.self c.requires.room c.loop-pattern.pattern c.loop-pattern.invariant c.loop-pattern-test.true in
    pattern_room vs _ c.args.rule.now.side c.switches-named.ensures c.requires.narrow c.args.self.now c.loop-pattern.self c.requires.room c.loop-pattern.pattern c.loop-pattern.invariant c.loop-pattern-test.true _ c.clause_against.ensures (c.if-breaks.ensures (length vs) in_range)

pub loop-pattern-preserved : goal.loop-pattern-preserved
loop-pattern-preserved c =
    let vs = c.switches-named.result.now in
    let in_range = within vs _ c.args.rule.now.side c.switches-named.ensures c.requires.narrow c.args.self.now c.loop-pattern.self c.requires.room c.loop-pattern.pattern c.loop-pattern.invariant c.loop-pattern-test.true in
    pattern_put vs _ c.args.rule.now.side c.switches-named.ensures c.requires.narrow c.args.self.now c.loop-pattern.self c.requires.room c.loop-pattern.pattern c.loop-pattern.invariant c.loop-pattern-test.true c.breaks.result c.if-breaks.self (c.breaks.ensures (length vs) in_range)
    (elim c.if-breaks.branch [ then-breaks w ↦ rw (w.if-breaks.true, w.self-is, ← w.clause_against.ensures) w.put_clause.ensures | else-breaks w ↦ rw (w.if-breaks.false, w.self-is) (puts_none c.loop-pattern.self) ])

pub returns : goal.returns
returns c = patterns_put _ _ c.args.rule.now.side c.switches-named.ensures c.requires.narrow c.args.self.now c.loop-pattern.self c.requires.room c.loop-pattern.pattern c.loop-pattern.invariant c.loop-pattern-test.false
