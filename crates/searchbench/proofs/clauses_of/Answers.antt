use Rattle.std.proofs.Common.{◌≡◌, true, map, vec_items, ap, ◌∙◌}
use Rattle.rules.specs.First.{every}
use Rattle.rules.specs.Lawful.{lawful}
use Rattle.rules.specs.Views.{constraint, clause_constraint}
use Rattle.searchbench.proofs.Clauses.{pushed_lawful}
use Rattle.searchbench.proofs.clauses_of.Goals as goal
use Rattle.searchbench.proofs.clauses_of.Goals.{in-Clause+in_ok-push, in_default}

pub loop-rule-preserved : goal.loop-rule-preserved
loop-rule-preserved c =
    let n = c.args.table.now.switches in
    let all : every (lawful n) (map constraint c.as_slice-rule-items.result.now) ≡ true = ap (λ rs. every (lawful n) (map constraint rs)) c.as_slice-rule-items.ensures.value ∙ c.args.table.now.sound in
    elim c.match-rule.branch [
      | in-Clause+in_ok-push w ↦ pushed_lawful n c.as_slice-rule-items.result.now c.loop-rule.rule-index c.rule-item.result w.in-Clause.clause (vec_items c.loop-rule.clauses) (vec_items c.match-rule.clauses) all c.loop-rule-test.true c.rule-item.is w.in-Clause.is (ap (λ v. vec_items v) w.clauses-is ∙ w.in_ok-push.ensures.items) c.loop-rule.invariant
      | in_default w ↦ ap (λ v. every (lawful n) (map clause_constraint (vec_items v))) w.clauses-is ∙ c.loop-rule.invariant
    ]
