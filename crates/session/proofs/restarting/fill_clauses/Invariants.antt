use Rattle.std.proofs.Common.{◌≡◌, ◌≤◌, ◌++◌, map, drop, vec_items, vec_len, vec_capacity}
use Rattle.rules.specs.Constraints.{clause}
use Rattle.rules.specs.Views.{constraint, clause_constraint}
use Rattle.parity_theory.specs.Recovering.{clauses}
use Rattle.session.proofs.restarting.fill_clauses.Given as goal

abbrev pub invariant-loop-rule : goal.invariant-loop-rule
invariant-loop-rule l =
    (map clause_constraint (vec_items l.clauses) ++ map clause (clauses (map constraint (drop l.rule-index l.rules))) ≡ map clause (clauses (map constraint l.rules)))
    × (vec_len l.clauses ≤ l.rule-index)
    × (vec_capacity l.clauses ≡ vec_capacity l.initial.clauses)
