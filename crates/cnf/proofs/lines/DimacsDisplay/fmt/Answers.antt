use Rattle.std.proofs.Common.{Some, refl, rules}
use Rattle.std.specs.List.{flat_map}
use Rattle.std.proofs.lemmas.Iterator.{YieldsList-from_map_by}
use Rattle.std.proofs.lemmas.Iterator.Consumers.{YieldsList-from_first}
use Rattle.rules.specs.Views.{constraint}
use Rattle.sheets.specs.Left.{rules_left}
use Rattle.text.proofs.Shown.{shown_each, then_shown}
use Rattle.cnf.specs.declared.lines.Line.{Line}
use Rattle.cnf.specs.Dimacs.{head_line, rule_line}
use Rattle.cnf.proofs.lines.DimacsDisplay.fmt.Goals as goal

pub returns-clause-writes : goal.returns-clause-writes
returns-clause-writes g c =
    let took = g.W.Write.write_str_gives in
    let m = g.S.Sheet.meaning c.args.self.now.0.now in
    then_shown took c.args.f.now _ _ (head_line m) (flat_map rule_line m.rules) _ tt c.write_each.result (search rules)
    (shown_each took c.map.result (λ (l : Line). Some (rule_line (constraint l.0))) rule_line (λ (l : Line). constraint l.0) (λ r. r) m.rules _ _ _ (λ _. refl) c.write_each.ensures
    (YieldsList-from_map_by _ (λ (l : Line). constraint l.0) (λ r. r) (YieldsList-from_first constraint (rules_left g.S.Sheet.meaning) m.rules (cc)) c.map.ensures.closure (λ x r q k. search rules))) refl
