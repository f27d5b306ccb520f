-- A session as the definitions have it.
use Rattle.std.specs.Prelude.{ℕ, List, take, drop}
use Rattle.rules.specs.Constraints.{Constraint}
use Rattle.search_theory.specs.Tries.{Course}
use Rattle.parity.specs.Reductions.{standing_rules}
use Rattle.search.specs.Searches.{course_of}
use Rattle.session_theory.specs.Session as theory
use Rattle.session.specs.declared.phases.Phase.{Phase}
use Rattle.session.specs.declared.session.Session.{Session}
use Rattle.session.specs.Phases.{standing_of}

-- of rules over n switches, the first k are the sheet's
abbrev pub session_from : ℕ → List Constraint → ℕ → Phase → Course → theory.Session
session_from n rules k p c =
    record { sheet = record { switches = n; rules = take k rules }; margin = drop k rules; standing = standing_of p c }

-- what a session of the code is, as the definitions have it
abbrev pub session_of : Session → theory.Session
session_of s = session_from s.rules.switches (standing_rules s.rules) s.count s.standing (course_of s.search)
