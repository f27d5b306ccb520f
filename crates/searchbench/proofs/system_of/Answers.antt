use Rattle.std.proofs.Common.{◌≡◌, ◌++◌, map, vec_items, sym, ap, ◌∙◌, subst}
use Rattle.std.proofs.lemmas.List.{append-nil}
use Rattle.rules.specs.Rows.{Reduced}
use Rattle.rules.specs.Views.{clause_constraint, row_constraint}
use Rattle.searchbench.proofs.Clauses.{clauses_reduced}
use Rattle.searchbench.proofs.system_of.Goals as goal

pub invariant_of-result : goal.invariant_of-result
invariant_of-result c =
    let cs = vec_items c.in_ok-clauses.clauses in
    let alone = clauses_reduced c.args.table.now.switches cs c.in_ok-clauses.ensures in
    let whole : map clause_constraint cs ++ map row_constraint (vec_items c.new.result) ≡ map clause_constraint cs = ap (λ rs. map clause_constraint cs ++ map row_constraint rs) c.new.ensures.items ∙ append-nil _ in
    record { few = c.args.table.now.narrow; reduced = ∣ subst (λ rs. Reduced c.args.table.now.switches rs) (sym whole) alone ∣₁ }
