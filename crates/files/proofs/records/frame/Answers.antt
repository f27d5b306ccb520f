use Rattle.std.proofs.Common.{sym, ap, ◌∙◌, arith}
use Rattle.rules.specs.First.{on_ok}
use Rattle.rules.specs.Views.{constraint}
use Rattle.files.specs.Misfits.{misfit_within}
use Rattle.files.proofs.records.frame.Goals as goal

pub map_err-requires : goal.map_err-requires
map_err-requires c = λ misfit is.
    let at = misfit_within c.args.kind c.args.n c.args.entries.now misfit (sym (ap (on_ok constraint) is) ∙ c.build_rule.ensures.value) in
    (λ _ _ _ _ _. omega (arith, c.requires), λ _ _ _ _ _. omega (arith, c.requires))
