use Rattle.std.proofs.Common.{Some, refl, rules}
use Rattle.std.proofs.lemmas.Iterator.{YieldsList-from_slice, YieldsList-from_map_by}
use Rattle.text.proofs.Shown.{shown_each}
use Rattle.cnf.specs.declared.lines.Entry.{Entry}
use Rattle.cnf.specs.Dimacs.{entry_text}
use Rattle.cnf.proofs.lines.LiteralsDisplay.fmt.Goals as goal

pub returns-clause-writes : goal.returns-clause-writes
returns-clause-writes g c =
    let ls = c.args.self.now.0.now in
    shown_each g.W.Write.write_str_gives c.map.result (λ (e : Entry). Some (entry_text e.0)) entry_text (λ (e : Entry). e.0) (λ l. l) ls _ _ _ (λ _. refl) c.write_each.ensures
    (YieldsList-from_map_by _ (λ (e : Entry). e.0) (λ l. l) (YieldsList-from_slice ls (cc)) c.map.ensures.closure (λ x r q k. search rules))
