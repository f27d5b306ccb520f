use Rattle.std.proofs.Common.{Some, sym, ap, ◌∙◌}
use Rattle.rules.specs.Views.{constraint}
use Rattle.parity.specs.Gathering.{named_by}
use Rattle.parity.proofs.equations.Equation.named_by.Goals as goal

pub returns-in-Parity : goal.returns-in-Parity
returns-in-Parity c = ap Some c.of.ensures ∙ ap (λ r. named_by (constraint r)) (sym c.in-Parity.is)
