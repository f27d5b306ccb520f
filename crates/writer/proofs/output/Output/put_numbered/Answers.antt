use Rattle.std.proofs.Common.{arith}
use Rattle.writer.specs.Bytes.{low_high}
use Rattle.writer.proofs.Puts.{puts_then}
use Rattle.writer.proofs.output.Output.put_numbered.Goals as goal

pub returns : goal.returns
returns c =
    let number = rw c.to_le_bytes.ensures at c.put-2.ensures in
    puts_then c.args.mark.now (low_high c.args.number) c.args.self.now c.put.new.self c.put-2.new.self (omega (arith, c.requires)) c.put.ensures number
