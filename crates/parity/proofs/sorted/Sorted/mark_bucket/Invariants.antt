use Rattle.std.proofs.Common.{map, length}
use Rattle.rules.specs.Views.{constraint}
use Rattle.parity.specs.Places.{marked_by}
use Rattle.parity.proofs.Linking.{Walk, left}
use Rattle.parity.proofs.sorted.Sorted.mark_bucket.Given as goal

abbrev pub invariant-loop-index : goal.invariant-loop-index
invariant-loop-index l = Walk l.switches (map constraint l.self.rules.now) l.bucket l.index l.marks (marked_by l.switches (map constraint l.self.rules.now) l.initial.marks)

abbrev pub decreases-loop-index : goal.decreases-loop-index
decreases-loop-index l = left (length (map constraint l.self.rules.now)) l.index
