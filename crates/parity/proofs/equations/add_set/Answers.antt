use Rattle.std.proofs.Common.{◌≡◌, suc, false, length, sym, ◌∙◌, arith}
use Rattle.std.proofs.lemmas.List.{ext_get_or}
use Rattle.parity_theory.specs.Equations.{difference}
use Rattle.parity_theory.proofs.Sums.{difference_has}
use Rattle.parity_theory.proofs.Bounds.{difference_length}
use Rattle.parity.proofs.equations.add_set.Goals as goal

pub returns : goal.returns
returns c =
    let a = c.args.a.now in
    let b = c.args.b.now in
    let e : length (difference a b) ≡ length a = difference_length (length a) a b (omega arith) (omega arith) in
    ext_get_or false c.loop-i.a (difference a b) (omega arith) (λ k h. c.loop-i.invariant.0 k (omega arith) ∙ sym (difference_has a b (suc k)))
