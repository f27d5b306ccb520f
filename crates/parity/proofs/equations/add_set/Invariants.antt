use Rattle.std.proofs.Common.{◌≡◌, ℕ, ◌<◌, ◌≤◌, false, get_or}
use Rattle.rules.specs.Constraints.{xor}
use Rattle.parity.proofs.equations.add_set.Given as goal

abbrev pub invariant-loop-i : goal.invariant-loop-i
invariant-loop-i l = ((k : ℕ) → k < l.i → get_or l.a k false ≡ xor (get_or l.initial.a k false) (get_or l.b k false)) × ((k : ℕ) → l.i ≤ k → get_or l.a k false ≡ get_or l.initial.a k false)
