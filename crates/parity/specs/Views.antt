-- What the values of elimination say.
use Rattle.std.specs.Prelude.{ℕ, suc, Some, None, Ok, Err, Option, Result}
use Rattle.parity_theory.specs.Equations as theory
use Rattle.parity_theory.specs.Reducing.{Row, row}
use Rattle.parity.specs.declared.equations.Equation.{Equation}
use Rattle.parity.specs.declared.equations.Solved.{Solved}

-- an equation of the code, as the definitions have it
abbrev pub equation_in : Equation → theory.Equation
equation_in e = record { members = e.members; odd = e.odd }

-- the index i stands for the switch i + 1
abbrev pub solved_row : Solved → Row
solved_row r = row (suc r.index) (equation_in r.equation)

-- the switch at an index, if there is one
abbrev pub switch_at : Option ℕ → Option ℕ
switch_at (Some i) = Some (suc i)
switch_at None = None

-- rows, absent on contradiction
abbrev pub unless_contradiction : {T E X : Type 0} → Result T E → X → Option X
unless_contradiction (Ok _) rows = Some rows
unless_contradiction (Err _) rows = None
