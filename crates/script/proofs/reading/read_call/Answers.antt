use Rattle.std.proofs.Common.{arith, ltb-false}
use Rattle.script.proofs.Fits.{at_mark}
use Rattle.script.proofs.reading.read_call.Goals as goal

pub returns-in-67 : goal.returns-in-67
returns-in-67 c = at_mark c.args.bytes.now c.read_clause.result 67 (omega (arith, ltb-false)) (omega arith) c.read_clause.ensures

pub returns-in-80 : goal.returns-in-80
returns-in-80 c = at_mark c.args.bytes.now c.read_parity.result 80 (omega (arith, ltb-false)) (omega arith) c.read_parity.ensures

pub returns-in-83 : goal.returns-in-83
returns-in-83 c = at_mark c.args.bytes.now c.read_settle.result 83 (omega (arith, ltb-false)) (omega arith) c.read_settle.ensures

pub returns-in-66 : goal.returns-in-66
returns-in-66 c = at_mark c.args.bytes.now c.read_copy.result 66 (omega (arith, ltb-false)) (omega arith) c.read_copy.ensures
