use Rattle.std.proofs.Common.{◌≡◌, ◌+◌, [], ◌∷◌, ◌++◌, map, drop, vec_items, sym, ap, ◌∙◌, arith}
use Rattle.std.proofs.lemmas.List.{map_push}
use Rattle.rules.specs.declared.faults.Layer.TheVariants as layer
use Rattle.rules.specs.First.{every}
use Rattle.rules.specs.Lawful.{lawful}
use Rattle.rules.specs.Views.{constraint}
use Rattle.rules.proofs.Lawfuls.{checked_lawful, every_push}
use Rattle.sheets.specs.Tables.{table_rules}
use Rattle.sheets.specs.Views.{draft}
use Rattle.sheets.proofs.Tabled.{prefixed, prefixed_push, passes}
use Rattle.sheets.proofs.tabling.make_table.Goals as goal

pub loop-i-preserved : goal.loop-i-preserved
loop-i-preserved c =
    let inv = c.loop-i.invariant in
    let n = c.args.n in
    let built = map constraint (vec_items c.loop-i.built) in
    let rule = constraint c.in-Ok.rule in
    let grown : map constraint (vec_items c.push.new.self) ≡ built ++ rule ∷ [] = ap (map constraint) c.in_ok-push.ensures.items ∙ map_push constraint (vec_items c.loop-i.built) c.in-Ok.rule in
    let raw = c.index-rules-i.result in
    let good = checked_lawful layer.Table c.loop-i.i n raw.kind (vec_items raw.entries) rule c.in-Ok.ensures in
    let here = passes n c.args.rules.now c.loop-i.i raw c.loop-i-test.true c.index-rules-i.is rule c.in-Ok.ensures in
    record {
      counted = omega (arith, c.in_ok-push.ensures.len);
      lawful = ap (every (lawful n)) grown ∙ every_push (lawful n) built rule inv.lawful good;
      rest = ap (λ rs. prefixed rs (table_rules n (c.loop-i.i + 1) (map draft (drop (c.loop-i.i + 1) c.args.rules.now)))) grown ∙ prefixed_push built rule _ ∙ ap (prefixed built) (sym here) ∙ inv.rest;
    }
