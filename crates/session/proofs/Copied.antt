-- What a copy writes, and that what happens goes on lawfully.
use Rattle.std.proofs.Common.{◌≡◌, ℕ, zero, suc, ◌+◌, ◌<◌, ◌≤◌, Bool, true, false, List, [], ◌∷◌, ◌++◌, map, length, get_or, take, drop, set, Some, Ok, refl, ap, subst, add-one, arith}
use Rattle.std.specs.Int.{from_bool}
use Rattle.std.proofs.lemmas.Bool.{le-ltb}
use Rattle.rules.specs.Constraints.{Constraint}
use Rattle.rules.specs.Rows.{bit}
use Rattle.search_theory.specs.Tries.{Course, nothing, due}
use Rattle.search_theory.specs.Tries as search
use Rattle.search.specs.declared.progress.End.TheVariants as end
use Rattle.search.specs.declared.search.Search.{Search}
use Rattle.search.specs.Ends.{end_of}
use Rattle.search.specs.Searches.{course_of}
use Rattle.session_theory.specs.Session.{Session, Entry, size, setting_of, copied, Happens}
use Rattle.session_theory.proofs.Laws.{goes_on}
use Rattle.session.specs.declared.phases.Phase.{Phase}
use Rattle.session.specs.declared.phases.Phase.TheVariants as phase
use Rattle.session.specs.Phases.{Stands, Tells}
use Rattle.session.specs.Calls.{GoesOn}

pub overwritten_more : (vs : List Bool) (old : List ℕ) (i : ℕ) → i < length vs → i < length old → set (map bit (take i vs) ++ drop i old) i (bit (get_or vs i false)) ≡ map bit (take (i + 1) vs) ++ drop (i + 1) old
overwritten_more vs old i lt room = rw add-one (by vs old i lt room)
  where
    by : (vs : List Bool) (old : List ℕ) (i : ℕ) → i < length vs → i < length old → set (map bit (take i vs) ++ drop i old) i (bit (get_or vs i false)) ≡ map bit (take (suc i) vs) ++ drop (suc i) old
    by [] old i lt room = absurd (omega arith)
    by (v ∷ vs) [] i lt room = absurd (omega arith)
    by (v ∷ vs) (o ∷ old) zero lt room = refl
    by (v ∷ vs) (o ∷ old) (suc i) lt room = ap (λ l. bit v ∷ l) (by vs old i (omega arith) (omega arith))

-- a value as a byte
pub byte_bit : (on : Bool) → from_bool on ≡ bit on
byte_bit true = refl
byte_bit false = refl

-- where a setting was found the search has found values, over as many switches
pub found_at : (n : ℕ) (rules : List Constraint) (p : Phase) (s : Search) → Tells p n rules s → p ≡ phase.Found → (vs : List Bool) × (course_of s ≡ search.found vs) × (s.system.switches ≡ n)
found_at n rules p s t is =
    let stands : Stands (end.Found tt) n rules s = subst (λ x. Tells x n rules s) is t in
    let some = by (course_of s) stands.ends in (some.0, some.1, stands.over.size)
  where
    by : (c : Course) → end_of c ≡ end.Found tt → (vs : List Bool) × (c ≡ search.found vs)
    by (search.found vs) h = (vs, refl)
    by nothing h = cc
    by (due ts) h = cc

pub copy_found : (s : Session) (old : List ℕ) (vs : List Bool) (new : List ℕ) → size s ≤ length old → setting_of s.standing ≡ Some vs → new ≡ map bit vs ++ drop (size s) old → Happens s (copied old (Ok tt) new) s
unfolding Happens
copy_found s old vs new room some is = rw (le-ltb _ _ room, some) ((refl, is), refl)

-- what happens goes on lawfully
pub lawfully : (s t : Session) (x : Entry) → Happens s x t → GoesOn s x t
unfolding GoesOn
lawfully s t x p m good h r = goes_on m good h s t x r p
