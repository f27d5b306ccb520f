-- The law of a session: what holds of its replies through all its calls, in whatever order they come.
use Rattle.std.specs.Prelude.{◌≡◌, ℕ, ◌+◌, ◌-◌, ◌^◌, ◌<◌, ◌≤◌, Bool, false, ◌↔◌, List, [], ◌∷◌, ◌++◌, map, length, drop, Some, None, Ok, Err, Option, ◌≢◌}
use Rattle.std.specs.Option.{option_map}
use Rattle.rules.specs.declared.faults.Fault.{Fault}
use Rattle.rules.specs.Settings.{Setting, setting}
use Rattle.rules.specs.Constraints.{Constraint, SomeOf, Keeps, Earliest}
use Rattle.rules.specs.Entries.{rule_of}
use Rattle.rules.specs.Checks.{kind_of}
use Rattle.rules.specs.Rows.{bit}
use Rattle.sheets.specs.Meaning.{Meaning, LawfulSheet}
use Rattle.parity_theory.specs.Standing.{KeepsParities}
use Rattle.parity_theory.specs.Reducing.{freedom}
use Rattle.parity_theory.specs.Counting.{Exactly}
use Rattle.search_theory.specs.Parts.{maybe}
use Rattle.search_theory.specs.Courses.{after, has_ended}
use Rattle.search_theory.specs.Theorems.{Unkept}
use Rattle.session_theory.specs.System.{system}
use Rattle.session_theory.specs.Session.{Session, opened, End, found, none, spent, Reply, Entry, took, freedom_told, settled, copied, Happens}

-- calls with their replies, the latest first
abbrev pub History : Type 0
History = List Entry

-- the calls of h, made one after the other on a session that was opened over m, got their replies and left s
unfoldable pub Recorded : Meaning → History → Session → Type 0
Recorded m [] s = s ≡ opened m
Recorded m (x ∷ h) s = (before : Session) × Recorded m h before × Happens before x s

-- the rule of an accepted take; a kind with a number that is no side is never accepted
abbrev pub accepted : Entry → Option Constraint
accepted (took kind es (Ok _)) = option_map (λ k. rule_of k es) (kind_of kind)
accepted (took kind es (Err f)) = None
accepted (freedom_told f) = None
accepted (settled b e k) = None
accepted (copied old r new) = None

-- the rules that stand after h: those of the sheet, then those of the accepted takes, in their order
abbrev pub standing : Meaning → History → List Constraint
standing m [] = m.rules
standing m (x ∷ h) = maybe (accepted x) (standing m h) (λ r. standing m h ++ (r ∷ []))

-- the stretch: the calls since the last accepted take, or since opening
abbrev pub since : History → History
since [] = []
since (x ∷ h) = maybe (accepted x) (x ∷ since h) (λ r. [])

-- the budget of a settle; 0 for any other call
abbrev pub budget : Entry → ℕ
budget (took kind es r) = 0
budget (freedom_told f) = 0
budget (settled b e k) = b
budget (copied old r new) = 0

-- the budgets of a stretch, added up
abbrev pub budgets : History → ℕ
budgets [] = 0
budgets (x ∷ h) = budget x + budgets h

-- the call is a settle that found the values
abbrev pub Finds : List Bool → Entry → Type 0
Finds values (took kind es r) = ⊥
Finds values (freedom_told f) = ⊥
Finds values (settled b e k) = e ≡ found values
Finds values (copied old r new) = ⊥

-- a settle of a stretch found them
abbrev pub FoundIn : History → List Bool → Type 0
FoundIn h values = SomeOf (Finds values) h

-- with f free switches some setting keeps the parity rules that stand, exactly 2^f settings do,
-- and a total of budgets is below 2^(f + 1) - 2, the most tries that a search can make
pub record Room (n : ℕ) (rules : List Constraint) (total : ℕ) : Type 0 where
  pub free : ℕ
  pub is_freedom : freedom n rules ≡ Some free
  pub some_keeps : (s : Setting) × KeepsParities n rules s
  pub count : Exactly n (2 ^ free) (KeepsParities n rules)
  pub below : total < 2 ^ (free + 1) - 2

-- a settle with a budget that ended with e after so many tries, where the budgets of its stretch, its own
-- included, add up to the total
pub record SettledRight (n : ℕ) (rules : List Constraint) (budget total : ℕ) (e : End) (tries : ℕ) : Type 0 where
  -- where it did not end spent, it found a setting exactly where some setting keeps every rule
  pub found_when : (e ≢ spent) → ((values : List Bool) × (e ≡ found values)) ↔ ((s : Setting) × Keeps rules s)
  -- which is the earliest such
  pub earliest : (values : List Bool) → e ≡ found values → (length values ≡ n) × Earliest n rules (setting values)
  -- and else it ended with none
  pub none_when : (e ≢ spent) → (e ≡ none) ↔ Unkept rules
  -- it ended spent exactly where its budget was made in tries and the search had not ended
  pub spent_when : (e ≡ spent) ↔ ((tries ≡ budget) × (has_ended (after n (system n rules) total) ≡ false))
  -- and then the total of the budgets is below the bound on tries
  pub spent_then : e ≡ spent → Room n rules total

-- a copy into a buffer that held the bytes old before it and new after it, where a setting was found as Found says
pub record CopiedRight (n : ℕ) (Found : List Bool → Type 0) (old : List ℕ) (r : Reply) (new : List ℕ) : Type 0 where
  -- it was accepted exactly where the buffer has at least n bytes and a setting was found
  pub accepted_when : (r ≡ Ok tt) ↔ ((n ≤ length old) × ((values : List Bool) × Found values))
  -- that setting was written, and the rest of the buffer is as it was
  pub writes : (values : List Bool) → r ≡ Ok tt → Found values → new ≡ map bit values ++ drop n old
  -- and else nothing was written
  pub else_nothing : (f : Fault) → r ≡ Err f → new ≡ old

-- what the law says of a call and its reply after h
abbrev pub Right : Meaning → Entry → History → Type 0
Right m (took kind es r) h = Unit {0}
Right m (freedom_told f) h = Unit {0}
Right m (settled b e k) h = SettledRight m.switches (standing m h) b (b + budgets (since h)) e k
Right m (copied old r new) h = CopiedRight m.switches (FoundIn (since h)) old r new

-- it holds of every call, with the calls before it
unfoldable pub Lawful : Meaning → History → Type 0
Lawful m [] = Unit {0}
Lawful m (x ∷ h) = Right m x h × Lawful m h

-- the law: whatever is called, and however often, on a session over a lawful sheet
abbrev pub Law : Type 0
Law = (m : Meaning) → LawfulSheet m → (h : History) (s : Session) → Recorded m h s → Lawful m h

-- the law for one call after others
pub record CallsLawful : Type 0 where
  -- an opened session has the empty history
  pub opens : (m : Meaning) → Recorded m [] (opened m)
  -- a call goes on with the history, and the whole of it is lawful
  pub goes_on :
      (m : Meaning) → LawfulSheet m → (h : History) (s t : Session) (x : Entry) → Recorded m h s → Happens s x t →
      Recorded m (x ∷ h) t × Lawful m (x ∷ h)
