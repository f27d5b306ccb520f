use Rattle.std.proofs.Common.{Some, refl, rules}
use Rattle.std.proofs.lemmas.Iterator.{YieldsList-from_slice, YieldsList-from_map_by}
use Rattle.text.proofs.Shown.{shown_each}
use Rattle.script.specs.declared.lines.Spaced.{Spaced}
use Rattle.script.specs.Lines.{byte_text}
use Rattle.script.proofs.lines.BytesDisplay.fmt.Goals as goal

pub returns-clause-writes : goal.returns-clause-writes
returns-clause-writes g c =
    let xs = c.args.self.now.0.now in
    shown_each g.W.Write.write_str_gives c.map.result (λ (x : Spaced). Some (byte_text x.0)) byte_text (λ (x : Spaced). x.0) (λ x. x) xs _ _ _ (λ _. refl) c.write_each.ensures
    (YieldsList-from_map_by _ (λ (x : Spaced). x.0) (λ x. x) (YieldsList-from_slice xs (cc)) c.map.ensures.closure (λ x r q k. search rules))
