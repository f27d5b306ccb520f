use Rattle.std.proofs.Common.{get_or, arith, ltb-false}
use Rattle.rules.specs.declared.kinds.RawKind.TheVariants.{Parity}
use Rattle.script.specs.Asked.{take_at}
use Rattle.script.proofs.Fits.{behind}
use Rattle.script.proofs.reading.read_parity.Goals as goal

pub returns : goal.returns
returns c =
    let bs = c.args.bytes.now in
    behind bs 2 (take_at (Parity (get_or bs 0 0)) (get_or bs 1 0)) c.read_take.result (omega (arith, ltb-false)) c.read_take.ensures
