use Rattle.std.proofs.Common.{Some, sym, ap, ◌∙◌, arith, ltb-false}
use Rattle.std.proofs.lemmas.List.{take_rest}
use Rattle.files.specs.FirstFormat.{first_clause}
use Rattle.files.specs.Slots.{clause_here}
use Rattle.files.proofs.first_year.FirstYearGeneration.read_rule.Goals as goal

pub returns-in-67 : goal.returns-in-67
returns-in-67 c =
    ap Some (c.read_clause.ensures ∙ ap (first_clause c.args.n) (take_rest c.args.bytes.now 2))
    ∙ sym (clause_here _ c.args.bytes.now (omega (arith, ltb-false)) (omega arith) (omega arith))
