use Rattle.std.proofs.Common.{arith}
use Rattle.writer.proofs.ReadBack.{reads_back}
use Rattle.writer.proofs.Outcomes.{writable, length_written, outcome_short, outcome_written}
use Rattle.writer.proofs.first_year.write_first_year.Goals as goal

pub returns-then-out-length-clause-outcome : goal.returns-then-out-length-clause-outcome
returns-then-out-length-clause-outcome g c = rw c.fault.ensures (outcome_short (g.S.Sheet.meaning c.args.sheet.now) c.args.out.now c.in_ok-records.records c.in_ok-records.ensures (omega arith))

pub put_file-requires-clause-writable : goal.put_file-requires-clause-writable
put_file-requires-clause-writable g c = writable (g.S.Sheet.meaning c.args.sheet.now) c.args.out.now c.in_ok-records.records c.in_ok-records.ensures

pub put_file-requires-clause-room : goal.put_file-requires-clause-room
put_file-requires-clause-room g c = omega (arith, length_written (g.S.Sheet.meaning c.args.sheet.now) c.args.out.now c.in_ok-records.records c.in_ok-records.ensures)

pub returns-clause-outcome : goal.returns-clause-outcome
returns-clause-outcome g c = outcome_written (g.S.Sheet.meaning c.args.sheet.now) c.args.out.now c.in_ok-records.records c.in_ok-records.ensures c.put_file.new.out c.put_file.ensures

pub returns-clause-reads_back : goal.returns-clause-reads_back
returns-clause-reads_back g c = reads_back (g.S.Sheet.meaning c.args.sheet.now) (g.met.S.Sheet.lawful c.args.sheet.now) c.in_ok-records.records c.args.out.now c.put_file.new.out c.in_ok-records.ensures c.put_file.ensures
