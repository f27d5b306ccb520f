use Rattle.std.proofs.Common.{◌≡◌, drop}
use Rattle.rules.specs.declared.kinds.Side.{Side}
use Rattle.rules.specs.Constraints.{is_odd}
use Rattle.search_theory.proofs.Scanning.{Counted}
use Rattle.search.specs.Values.{part_of}
use Rattle.search.proofs.rows.look_at_switches.Given as goal

abbrev pub invariant-loop-switch : goal.invariant-loop-switch
invariant-loop-switch l = (side : Side) → l.initial.odd ≡ is_odd side → Counted (part_of l.part) l.switches side l.unset l.odd (drop l.switch-index l.switches)
