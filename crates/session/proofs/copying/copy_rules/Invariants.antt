use Rattle.std.proofs.Common.{◌≡◌, ◌+◌, ◌≤◌, ◌++◌, map, length, vec_items, vec_capacity}
use Rattle.rules.specs.Views.{constraint}
use Rattle.sheets.specs.Left.{rules_left}
use Rattle.session.proofs.copying.copy_rules.Given as goal

abbrev pub invariant-loop-rule : goal.invariant-loop-rule
invariant-loop-rule g l =
    (goal.iterator-loop-rule g).can_next l.rule-iterator
    × (goal.iterator-loop-rule g).is_finite l.rule-iterator
    × (map constraint (vec_items l.rules) ++ rules_left g.S.Sheet.meaning l.rule-iterator ≡ (g.S.Sheet.meaning l.sheet).rules)
    × (length (g.S.Sheet.meaning l.sheet).rules + 64 ≤ vec_capacity l.rules)
