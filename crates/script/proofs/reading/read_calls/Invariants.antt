use Rattle.std.proofs.Common.{◌≡◌, ◌≤◌, map, vec_items, vec_len, vec_capacity}
use Rattle.script.specs.Asked.{asked}
use Rattle.script.proofs.Walk.{Underway}
use Rattle.script.proofs.reading.read_calls.Given as goal

abbrev pub invariant-loop-i : goal.invariant-loop-i
invariant-loop-i l = Underway l.count l.bytes l.i l.rest (map asked (vec_items l.calls)) × (vec_len l.calls ≡ l.i) × (l.count ≤ vec_capacity l.calls)
