use Rattle.std.proofs.Common.{◌≡◌, ◌≤◌, length, take, vec_items, vec_len, vec_capacity}
use Rattle.session.specs.Sessions.{session_of}
use Rattle.session.specs.Drives.{SoFar}
use Rattle.session.proofs.driver.perform.Given as goal

abbrev pub invariant-loop-call : goal.invariant-loop-call
invariant-loop-call g l =
    SoFar (g.S.Sheet.meaning l.sheet) (take l.call-index l.calls) (vec_items l.replies) (session_of l.session)
    × (vec_len l.replies ≡ l.call-index)
    × (length l.calls ≤ vec_capacity l.replies)
