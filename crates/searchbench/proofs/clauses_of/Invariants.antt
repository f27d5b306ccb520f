use Rattle.std.proofs.Common.{◌≡◌, true, map, vec_items}
use Rattle.rules.specs.First.{every}
use Rattle.rules.specs.Lawful.{lawful}
use Rattle.rules.specs.Views.{clause_constraint}
use Rattle.searchbench.proofs.clauses_of.Given as goal

abbrev pub invariant-loop-rule : goal.invariant-loop-rule
invariant-loop-rule l = every (lawful l.table.switches) (map clause_constraint (vec_items l.clauses)) ≡ true
