-- What one rule does at a part-setting, and what a pass over rules meets first.
use Rattle.std.specs.Prelude.{◌≡◌, ℕ, ◌+◌, ◌<◌, Bool, true, false, List, [], ◌∷◌, Some, None, Option, Ok, Err, Result}
use Rattle.rules.specs.declared.literals.Literal.{Literal}
use Rattle.rules.specs.Constraints.{Constraint, switches, Each}
use Rattle.search_theory.specs.Parts.{Part, SetBut}
use Rattle.search_theory.specs.Forcing.{says, dead}
use Rattle.search.specs.declared.looking.Dead.{Dead}
use Rattle.search.specs.declared.looking.Forced.{Forced}

abbrev pub look_of : Bool → Option Literal → Result (Option Literal) Dead
look_of true o = Err (record {})
look_of false o = Ok o

-- what a rule does: it is dead, or forces a literal, or nothing
abbrev pub look_at : Part → Constraint → Result (Option Literal) Dead
look_at p r = look_of (dead p r) (says p r)

-- what a rule forces was unset, and all its other switches are set
abbrev pub ForcesOne : Constraint → Type 0
ForcesOne r = (p : Part) (l : Literal) → says p r ≡ Some l → (p l.switch ≡ None) × Each (SetBut p l.switch) (switches r)

abbrev pub pass_at : Result (Option Literal) Dead → ℕ → Result (Option Forced) Dead → Result (Option Forced) Dead
pass_at (Ok None) i later = later
pass_at (Ok (Some l)) i later = Ok (Some (record { at = i; literal = l }))
pass_at (Err d) i later = Err d

-- the first rule that is dead or forces a switch, where the first of the rules has the index i
abbrev pub pass_from : Part → ℕ → List Constraint → Result (Option Forced) Dead
pass_from p i [] = Ok None
pass_from p i (r ∷ rs) = pass_at (look_at p r) i (pass_from p (i + 1) rs)

-- what is forced is unset
abbrev pub UnsetBy : Result (Option Forced) Dead → Part → Type 0
UnsetBy (Ok None) p = Unit {0}
UnsetBy (Ok (Some f)) p = p f.literal.switch ≡ None
UnsetBy (Err d) p = Unit {0}

abbrev pub IndexBelow : Result (Option Forced) Dead → ℕ → Type 0
IndexBelow (Ok None) n = Unit {0}
IndexBelow (Ok (Some f)) n = f.at < n
IndexBelow (Err d) n = Unit {0}
