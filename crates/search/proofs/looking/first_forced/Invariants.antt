use Rattle.std.proofs.Common.{◌≡◌, map, drop}
use Rattle.search.specs.Values.{part_of}
use Rattle.search.specs.Looks.{pass_from}
use Rattle.search.proofs.looking.first_forced.Given as goal

abbrev pub invariant-loop-at : goal.invariant-loop-at
invariant-loop-at g l = pass_from (part_of l.part) l.at (drop l.at (map g.R.Forcing.constraint l.rules)) ≡ pass_from (part_of l.part) l.from (drop l.from (map g.R.Forcing.constraint l.rules))
