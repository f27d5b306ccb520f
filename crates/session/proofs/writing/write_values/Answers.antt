use Rattle.std.proofs.Common.{set, ap, ◌∙◌, arith}
use Rattle.session.proofs.Copied.{byte_bit, overwritten_more}
use Rattle.session.proofs.writing.write_values.Goals as goal

pub loop-i-preserved : goal.loop-i-preserved
loop-i-preserved c =
    let i = c.loop-i.i in
    let vs = c.args.values.now in
    ap (λ l. set l i c.from.result) c.loop-i.invariant
    ∙ ap (set _ i) (c.from.ensures ∙ byte_bit _)
    ∙ overwritten_more vs c.args.out.now i c.loop-i-test.true (omega (arith, c.requires, c.loop-i-test.true))
