use Rattle.std.proofs.Common.{◌≡◌, Some}
use Rattle.search_theory.specs.Courses.{next_in}
use Rattle.search_theory.proofs.Courses.{Sofar}
use Rattle.search.specs.Moves.{rules_of}
use Rattle.search.specs.Searches.{course_of}
use Rattle.search.proofs.search.Search.go_on.Given as goal

abbrev pub invariant-loop-tries : goal.invariant-loop-tries
invariant-loop-tries l =
    record {
      same : l.self.system ≡ l.initial.self.system;
      goes : Sofar (next_in l.initial.self.system.switches (Some (rules_of l.initial.self.system))) l.budget l.tries (course_of l.self) (course_of l.initial.self);
    }
