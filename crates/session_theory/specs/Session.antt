-- A session over a sheet: what it holds, what each call replies, and what it leaves.
use Rattle.std.specs.Prelude.{◌≡◌, ℕ, Bool, cond, List, [], ◌∷◌, ◌++◌, map, length, drop, ℤ, Some, None, Ok, Err, Option, Result, nat_lt}
use Rattle.rules.specs.declared.literals.Literal.{Literal}
use Rattle.rules.specs.declared.kinds.RawKind.{RawKind}
use Rattle.rules.specs.declared.faults.Layer.TheVariants as layer
use Rattle.rules.specs.declared.faults.Cause.TheVariants.{ShortBuffer, MarginFull, NothingFound}
use Rattle.rules.specs.declared.faults.Fault.{Fault}
use Rattle.rules.specs.First.{on_ok}
use Rattle.rules.specs.Constraints.{Constraint}
use Rattle.rules.specs.Faults.{fault}
use Rattle.rules.specs.Checks.{checked}
use Rattle.rules.specs.Rows.{bit}
use Rattle.sheets.specs.Meaning.{Meaning}
use Rattle.parity_theory.specs.Reducing.{freedom}
use Rattle.search_theory.specs.Tries.{Course}
use Rattle.search_theory.specs.Tries as search
use Rattle.search_theory.specs.Courses.{next_in, onward, tries, begin}
use Rattle.session_theory.specs.System.{system}

-- fresh, or how far the search is: underway while a try is due, else ended with a setting or with none
pub data Standing : Type 0 where
  fresh : Standing
  searched : Course → Standing

-- the sheet, the rules that were taken, and the standing
pub record Session : Type 0 where
  pub sheet : Meaning
  pub margin : List Constraint
  pub standing : Standing

-- how a settle ends: with the setting found, with none, or with its budget spent
pub data End : Type 0 where
  found : List Bool → End
  none : End
  spent : End

-- a session as it is opened: fresh, and no rule taken
abbrev pub opened : Meaning → Session
opened m = record { sheet = m; margin = []; standing = fresh }

-- the number of switches
abbrev pub size : Session → ℕ
size s = s.sheet.switches

-- the rules that stand: those of the sheet, then those that were taken, in their order
abbrev pub rules : Session → List Constraint
rules s = s.sheet.rules ++ s.margin

-- how many rules a session takes at most
abbrev pub most_taken : ℕ
most_taken = 64

-- a rule that passed its own check still needs room in the margin, which holds k rules
abbrev pub with_room : ℕ → Result Constraint Fault → Result Constraint Fault
with_room k (Ok r) = cond (nat_lt k most_taken) (Ok r) (Err (fault layer.Session MarginFull 0 0))
with_room k (Err f) = Err f

-- the rule that a take adds, or why it is refused
abbrev pub taken : Session → RawKind → List ℤ → Result Constraint Fault
taken s kind es = with_room (length s.margin) (checked layer.Session 0 (size s) kind es)

-- an accepted take adds its rule and makes the session fresh
abbrev pub joined : Session → Constraint → Session
joined s r = record { sheet = s.sheet; margin = s.margin ++ (r ∷ []); standing = fresh }

-- a refused take leaves the session as it is
abbrev pub after_take : Session → Result Constraint Fault → Session
after_take s (Ok r) = joined s r
after_take s (Err f) = s

-- accepted, or refused with a fault
abbrev pub Reply : Type 0
Reply = Result (Unit {0}) Fault

-- what follows the tries of the search over the rules that stand
abbrev pub next_of : Session → List Literal → Course
next_of s = next_in (size s) (system (size s) (rules s))

-- how far a search over the rules rs is
abbrev pub course_of : ℕ → List Constraint → Standing → Course
course_of n rs fresh = begin n (system n rs)
course_of n rs (searched c) = c

-- how far the search of a session is; that of a fresh one is at its beginning
abbrev pub course : Session → Course
course s = course_of (size s) (rules s) s.standing

-- how far it is after b more tries, or at its end before that; a search that has ended stays as it is
abbrev pub settled_course : Session → ℕ → Course
settled_course s b = onward (next_of s) b (course s)

-- how many of the b tries are made
abbrev pub settled_tries : Session → ℕ → ℕ
settled_tries s b = tries (next_of s) b (course s)

-- a settle leaves the session with the course to which the search came
abbrev pub at_course : Session → Course → Session
at_course s c = record { sheet = s.sheet; margin = s.margin; standing = searched c }

-- the end of a settle that leaves the search at a course
abbrev pub end_at : Course → End
end_at (search.found values) = found values
end_at search.nothing = none
end_at (search.due ts) = spent

-- the setting that a search has found
abbrev pub setting_at : Course → Option (List Bool)
setting_at (search.found values) = Some values
setting_at search.nothing = None
setting_at (search.due ts) = None

-- the setting of a session whose standing is found
abbrev pub setting_of : Standing → Option (List Bool)
setting_of fresh = None
setting_of (searched c) = setting_at c

-- refused where there is no setting
abbrev pub when_found : Option (List Bool) → Reply
when_found None = Err (fault layer.Session NothingFound 0 0)
when_found (Some values) = Ok tt

-- a copy needs a buffer of n bytes, then a setting
abbrev pub copy_reply : ℕ → Option (List Bool) → List ℕ → Reply
copy_reply n o old = cond (nat_lt (length old) n) (Err (fault layer.Session ShortBuffer 0 0)) (when_found o)

-- a byte for each switch, 0 for off and 1 for on, in front of what the buffer held past n bytes
abbrev pub overwritten : ℕ → Option (List Bool) → List ℕ → List ℕ
overwritten n None old = old
overwritten n (Some values) old = map bit values ++ drop n old

-- the buffer after a copy
abbrev pub copy_bytes : ℕ → Option (List Bool) → List ℕ → List ℕ
copy_bytes n o old = cond (nat_lt (length old) n) old (overwritten n o old)

-- an entry of a history, which is a call with its reply: a take of a kind and the entries of a rule; what freedom
-- told; a settle with its budget, its end and its tries; a copy with what the buffer held before, and after it
pub data Entry : Type 0 where
  took : RawKind → List ℤ → Reply → Entry
  freedom_told : Option ℕ → Entry
  settled : ℕ → End → ℕ → Entry
  copied : List ℕ → Reply → List ℕ → Entry

-- at s the call gets that reply
abbrev pub Replies : Session → Entry → Type 0
Replies s (took kind es r) = r ≡ on_ok (λ _. tt) (taken s kind es)
Replies s (freedom_told f) = f ≡ freedom (size s) (rules s)
Replies s (settled b e k) = (e ≡ end_at (settled_course s b)) × (k ≡ settled_tries s b)
Replies s (copied old r new) = (r ≡ copy_reply (size s) (setting_of s.standing) old) × (new ≡ copy_bytes (size s) (setting_of s.standing) old)

-- the session that the call leaves
abbrev pub leaves : Session → Entry → Session
leaves s (took kind es r) = after_take s (taken s kind es)
leaves s (freedom_told f) = s
leaves s (settled b e k) = at_course s (settled_course s b)
leaves s (copied old r new) = s

-- at s the call gets that reply, and leaves t
unfoldable pub Happens : Session → Entry → Session → Type 0
Happens s x t = Replies s x × (t ≡ leaves s x)
