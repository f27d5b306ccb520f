use Rattle.std.proofs.Common.{refl}
use Rattle.writer.proofs.Counts.{parity_wide, parity_count}
use Rattle.writer.proofs.counting.records_for.Goals as goal

pub returns-then-width-gt5-clause-count : goal.returns-then-width-gt5-clause-count
returns-then-width-gt5-clause-count c =
    rw (c.in-Parity.is, ← c.switches-width.ensures) (parity_wide c.switches-width.result.now c.in-Parity.parity.side c.if-width-gt5.true)

pub returns-else-width-gt5 : goal.returns-else-width-gt5
returns-else-width-gt5 c =
    let some = rw (c.in-Parity.is, ← c.switches-width.ensures) at c.requires in
    let counted = parity_count c.switches-width.result.now c.in-Parity.parity.side _ refl some c.if-width-gt5.false in
    record { count = rw (c.in-Parity.is, ← c.switches-width.ensures) counted.0; few = counted.1 }
