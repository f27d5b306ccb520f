use Rattle.search.specs.Moves.{Moves, left_over, rules_of}
use Rattle.search.proofs.forcing.force.Given as goal

abbrev pub invariant-loop-part : goal.invariant-loop-part
invariant-loop-part l = Moves (rules_of l.system) l.initial.part l.part

abbrev pub decreases-loop-part : goal.decreases-loop-part
decreases-loop-part l = left_over 256 l.part l.from
