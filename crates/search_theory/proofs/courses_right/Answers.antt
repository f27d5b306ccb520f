use Rattle.std.proofs.Common.{refl}
use Rattle.search_theory.proofs.Courses.{tells, made_most, ends, ended_stays, courses_join, tries_add, within_budget, all_made}
use Rattle.search_theory.proofs.courses_right.Goals as goal

pub returns : goal.returns
returns c =
    record {
      tells = tells;
      made_most = made_most;
      ends = ends;
      absent = λ n t. refl;
      ended_stays = ended_stays;
      courses_join = courses_join;
      tries_add = tries_add;
      within_budget = within_budget;
      all_made = all_made;
    }
