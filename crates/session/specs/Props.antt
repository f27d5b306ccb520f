-- Lemmas for ghost fields: any two proofs of a fact that a session holds in one are the same.
use Rattle.std.specs.Prelude.{ℕ, List}
use Rattle.std.specs.Coded.{Unit-prop}
use Rattle.std.proofs.Props.{props}
use Rattle.rules.specs.Constraints.{Constraint}
use Rattle.rules.proofs.Sets.{constraints_set}
use Rattle.parity.specs.declared.reduction.Reduction.{Reduction}
use Rattle.search.specs.declared.search.Search.{Search}
use Rattle.session.specs.declared.phases.Phase.{Phase}
use Rattle.session.specs.declared.phases.Phase.TheVariants as phase
use Rattle.session.specs.Phases.{Reduces, Tells}

pub Reduces-prop : (n : ℕ) (rules : List Constraint) (r : Reduction) → IsProp (Reduces n rules r)
Reduces-prop n rules r = hlevel (props, constraints_set)

pub Tells-prop : (p : Phase) (n : ℕ) (rules : List Constraint) (s : Search) → IsProp (Tells p n rules s)
Tells-prop phase.Fresh n rules s = Unit-prop
Tells-prop phase.Underway n rules s = hlevel (props, constraints_set)
Tells-prop phase.Found n rules s = hlevel (props, constraints_set)
Tells-prop phase.None n rules s = Unit-prop
