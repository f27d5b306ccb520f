-- Worked sessions over three switches, as one table: the rules of the sheet, and calls with their replies.
use Rattle.std.specs.Prelude.{ℕ, true, false, List, [], ◌∷◌, ◌++◌, map, take, ℤ, pos, negsuc, Some, None, Ok, Err, Option}
use Rattle.rules.specs.declared.kinds.Side.TheVariants.{Even, Odd}
use Rattle.rules.specs.declared.kinds.RawKind.TheVariants as raw
use Rattle.rules.specs.declared.faults.Layer.TheVariants as layer
use Rattle.rules.specs.declared.faults.Cause.TheVariants.{Repeat, ShortBuffer, NothingFound}
use Rattle.rules.specs.Constraints.{Constraint, clause, parity, positive, Each}
use Rattle.rules.specs.Faults.{fault}
use Rattle.parity_theory.specs.Cases.{four_clauses}
use Rattle.search_theory.specs.Tries.{negative}
use Rattle.session_theory.specs.Session.{Session, opened, End, found, none, spent, Entry, took, freedom_told, settled, copied, Replies, leaves}

-- the calls, one after the other, get their replies
abbrev pub AllReply : Session → List Entry → Type 0
AllReply s [] = Unit {0}
AllReply s (x ∷ xs) = Replies s x × AllReply (leaves s x) xs

-- the rules of a sheet, and calls on the session that is opened over it
pub record Case : Type 0 where
  pub rules : List Constraint
  pub calls : List Entry

abbrev pub case : List Constraint → List Entry → Case
case rules calls = record { rules = rules; calls = calls }

-- so many switches are free, and a settle with a large budget ends so after so many tries
abbrev pub tells : Option ℕ → End → ℕ → List Entry
tells f e k = freedom_told f ∷ settled 1000000 e k ∷ []

-- a clause of one literal is taken
abbrev pub takes : ℤ → Entry
takes e = took raw.Clause (e ∷ []) (Ok tt)

-- an odd number of the three switches is on
abbrev pub odd_three : List Constraint
odd_three = parity (1 ∷ 2 ∷ 3 ∷ []) Odd ∷ []

-- 1 and 2 are alike, and the clauses rule out both values of 3
abbrev pub third_ruled_out : List Constraint
third_ruled_out =
    parity (1 ∷ 2 ∷ []) Even
    ∷ clause (positive 1 ∷ positive 2 ∷ positive 3 ∷ [])
    ∷ clause (positive 1 ∷ positive 2 ∷ negative 3 ∷ [])
    ∷ clause (negative 1 ∷ negative 2 ∷ positive 3 ∷ [])
    ∷ clause (negative 1 ∷ negative 2 ∷ negative 3 ∷ [])
    ∷ []

-- 001: switch 3 alone is on
abbrev pub third_on : End
third_on = found (false ∷ false ∷ true ∷ [])

-- clauses are taken one after the other, the last against what was found
abbrev pub taking_clauses : List Entry
taking_clauses =
    tells (Some 2) third_on 2
    ++ (takes (pos 1) ∷ tells (Some 1) (found (true ∷ false ∷ false ∷ [])) 1)
    ++ (takes (pos 2) ∷ tells (Some 0) (found (true ∷ true ∷ true ∷ [])) 0)
    ++ (takes (negsuc 2) ∷ tells None none 0)

-- the last of the four clauses is taken: the parity rule is recovered from clauses of the sheet and of the margin
abbrev pub completing : List Entry
completing = tells (Some 3) third_on 2 ++ (took raw.Clause (negsuc 0 ∷ negsuc 1 ∷ pos 3 ∷ []) (Ok tt) ∷ tells (Some 2) third_on 2)

-- the second entry of a take names the switch of the first; the session goes on as if it had not been called
abbrev pub naming_twice : List Entry
naming_twice = took raw.Clause (pos 2 ∷ negsuc 1 ∷ []) (Err (fault layer.Session Repeat 0 1)) ∷ tells (Some 2) third_on 2

-- a copy before a setting is found, then one into a buffer of four bytes and one into a buffer of two
abbrev pub copying : List Entry
copying =
    copied (7 ∷ 7 ∷ 7 ∷ 7 ∷ []) (Err (fault layer.Session NothingFound 0 0)) (7 ∷ 7 ∷ 7 ∷ 7 ∷ [])
    ∷ settled 2 third_on 2
    ∷ copied (7 ∷ 7 ∷ 7 ∷ 7 ∷ []) (Ok tt) (0 ∷ 0 ∷ 1 ∷ 7 ∷ [])
    ∷ copied (7 ∷ 7 ∷ []) (Err (fault layer.Session ShortBuffer 0 0)) (7 ∷ 7 ∷ [])
    ∷ settled 5 third_on 0
    ∷ []

abbrev pub table : List Case
table =
    -- a parity rule, and the same with its clauses; with one clause missing, nothing is recovered
    case odd_three (tells (Some 2) third_on 2)
    ∷ case (map clause four_clauses) (tells (Some 2) third_on 2)
    ∷ case (map clause (take 3 four_clauses)) (tells (Some 3) third_on 2)
    -- the highest switches depend on the lower ones
    ∷ case (parity (1 ∷ 3 ∷ []) Odd ∷ parity (2 ∷ 3 ∷ []) Even ∷ []) (tells (Some 1) (found (false ∷ true ∷ true ∷ [])) 1)
    -- parity rules that contradict each other: no setting, and no try
    ∷ case (parity (1 ∷ 2 ∷ []) Even ∷ parity (2 ∷ 3 ∷ []) Even ∷ parity (1 ∷ 3 ∷ []) Odd ∷ []) (tells None none 0)
    -- one search in two settles
    ∷ case third_ruled_out (freedom_told (Some 2) ∷ settled 1 spent 1 ∷ settled 1 none 1 ∷ [])
    ∷ case odd_three taking_clauses
    ∷ case (map clause (take 3 four_clauses)) completing
    ∷ case odd_three naming_twice
    ∷ case odd_three copying
    ∷ []

-- each case is what the definitions compute
abbrev pub Worked : Type 0
Worked = Each (λ c. AllReply (opened (record { switches = 3; rules = c.rules })) c.calls) table
