use Rattle.std.proofs.Common.{false, refl, arith, length-set}
use Rattle.writer.proofs.Slots.{record_none, record_more}
use Rattle.writer.proofs.expansion.record_of.Goals as goal

pub loop-j-init : goal.loop-j-init
loop-j-init c = record { sized = refl; read = record_none }

pub loop-j-preserved : goal.loop-j-preserved
loop-j-preserved c = record {
  sized = simp (length-set, length-set) c.loop-j.invariant.sized;
  read = record_more c.args.literals.now c.loop-j.j (record { switch = 0; on = false }) c.loop-j.record c.slot_of.result (omega (arith, c.requires)) c.loop-j-test.true c.slot_of.ensures c.loop-j.invariant.read;
}
