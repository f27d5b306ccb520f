use Rattle.std.proofs.Common.{◌≡◌, not, eqb, option_map, ◌∙◌, rules, tests}
use Rattle.std.proofs.lemmas.Iterator.{YieldsList-from_slice}
use Rattle.std.proofs.lemmas.Iterator.Search.{find_from_yields_List}
use denote.Ref.{Bor}
use Rattle.rules.specs.declared.literals.Literal.{Literal}
use Rattle.parity.proofs.Values.{breaking_found}
use Rattle.parity.proofs.marking.breaking_value.Goals as goal

pub returns : goal.returns
returns c =
    let ls = c.args.literals.now in
    let v = c.args.switch in
    let found = find_from_yields_List (λ (l : Literal). eqb l.switch v) _ _ c.find.result c.find.ensures.ran (YieldsList-from_slice ls (cc)) (λ x b q k. search (rules, tests)) in
    let is : c.map.result ≡ option_map (λ (y : Bor Literal). not y.now.on) c.find.result = search rules in
    is ∙ breaking_found c.find.result ls v found
