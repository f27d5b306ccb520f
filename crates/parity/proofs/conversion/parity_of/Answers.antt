use Rattle.std.proofs.Common.{◌≡◌, true, ap, ◌∙◌, rules, tests}
use mathlib.Core.Bool.{beq}
use Rattle.std.proofs.lemmas.Iterator.{YieldsList-from_slice}
use Rattle.std.proofs.lemmas.Iterator.Consumers.{fold_from_yields_List}
use Rattle.rules.specs.declared.literals.Literal.{Literal}
use Rattle.rules.specs.Constraints.{side_when}
use Rattle.parity.proofs.Conversions.{odd_folded}
use Rattle.parity.proofs.conversion.parity_of.Goals as goal

pub returns-clause-side : goal.returns-clause-side
returns-clause-side c =
    let ls = c.args.literals.now in
    let folded = fold_from_yields_List _ (λ b (l : Literal). beq b l.on) true c.fold-odd.result c.fold-odd.ensures.ran (YieldsList-from_slice ls (cc)) (λ a x b q k. search (rules, tests)) in
    let side : c.loop-literal.parity.side ≡ side_when c.fold-odd.result = search rules in
    side ∙ ap side_when (folded ∙ odd_folded ls true)
