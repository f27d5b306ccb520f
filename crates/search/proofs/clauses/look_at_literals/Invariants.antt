use Rattle.std.proofs.Common.{drop}
use Rattle.search_theory.proofs.Scanning.{Read}
use Rattle.search.specs.Values.{part_of}
use Rattle.search.proofs.clauses.look_at_literals.Given as goal

abbrev pub invariant-loop-literal : goal.invariant-loop-literal
invariant-loop-literal l = Read (part_of l.part) l.literals l.unset (drop l.literal-index l.literals)
