use Rattle.std.proofs.Common.{◌≡◌, ◌≤◌, map, length, take}
use Rattle.std.specs.Slice.Iter.{iter_rest}
use Rattle.std.specs.Iterator.Adapters.{enumerate_source, enumerate_count, rev_source}
use Rattle.rules.specs.Views.{constraint}
use Rattle.parity.specs.Buckets.{LinkedFrom}
use Rattle.parity.proofs.sorted.Sorted.new.Given as goal

-- the rules that are left are the first ones, and those behind them are linked
abbrev pub invariant-loop-i : goal.invariant-loop-i
invariant-loop-i l =
    let rest = iter_rest (enumerate_source (rev_source l.i-iterator)) in
    (length l.first ≡ 256)
    × (length l.next ≡ 2112)
    × LinkedFrom (map constraint l.rules) (length rest) l.first l.next
    × (enumerate_count (rev_source l.i-iterator) ≡ 0)
    × (rest ≡ take (length rest) l.rules)
    × (length rest ≤ length l.rules)
