use Rattle.std.proofs.Common.{Some, refl, rules}
use Rattle.std.proofs.lemmas.Iterator.{YieldsList-from_slice, YieldsList-from_map_by}
use Rattle.std.proofs.lemmas.List.Folds.{flat_map-map}
use Rattle.rules.specs.Constraints.{positive}
use Rattle.text.proofs.Shown.{shown_each}
use Rattle.cnf.specs.declared.lines.Entry.{Entry}
use Rattle.cnf.specs.Dimacs.{entry_text}
use Rattle.cnf.proofs.lines.SwitchesDisplay.fmt.Goals as goal

pub returns-clause-writes : goal.returns-clause-writes
returns-clause-writes g c =
    let vs = c.args.self.now.0.now in
    rw (flat_map-map entry_text positive vs)
    (shown_each g.W.Write.write_str_gives c.map.result (λ (e : Entry). Some (entry_text e.0)) entry_text (λ (e : Entry). e.0) positive vs _ _ _ (λ _. refl) c.write_each.ensures
    (YieldsList-from_map_by _ (λ (e : Entry). e.0) positive (YieldsList-from_slice vs (cc)) c.map.ensures.closure (λ x r q k. search rules)))
