use Rattle.std.proofs.Common.{◌≡◌, Bool, List, length, take}
use Rattle.search_theory.specs.Tries.{found}
use Rattle.search.specs.Searches.{course_of}
use Rattle.session.proofs.session.Session.setting.Given as goal

abbrev pub invariant-loop-i : goal.invariant-loop-i
invariant-loop-i l =
    ((s : List Bool) → course_of l.self.search ≡ found s → l.self.search.system.switches ≡ l.self.rules.switches → take l.i l.values ≡ take l.i s)
    × (length l.values ≡ 256)
