use Rattle.search.proofs.Levels.{Back}
use Rattle.search.proofs.values.unset_above.Given as goal

abbrev pub invariant-loop-index : goal.invariant-loop-index
invariant-loop-index l = Back l.initial.values l.levels l.limit l.values l.index
