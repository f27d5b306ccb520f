use Rattle.std.proofs.Common.{Some, refl, rules}
use Rattle.std.proofs.lemmas.Iterator.{YieldsList-from_slice, YieldsList-from_map_by}
use Rattle.text.proofs.Shown.{shown_each}
use Rattle.report.specs.declared.lines.Value.{Value}
use Rattle.report.specs.Lines.{value_text}
use Rattle.report.proofs.lines.ValuesDisplay.fmt.Goals as goal

pub returns-clause-writes : goal.returns-clause-writes
returns-clause-writes g c =
    let vs = c.args.self.now.0.now in
    shown_each g.W.Write.write_str_gives c.map.result (λ (v : Value). Some (value_text v.0)) value_text (λ (v : Value). v.0) (λ b. b) vs _ _ _ (λ _. refl) c.write_each.ensures
    (YieldsList-from_map_by _ (λ (v : Value). v.0) (λ b. b) (YieldsList-from_slice vs (cc)) c.map.ensures.closure (λ x r q k. search rules))
