use Rattle.search_theory.proofs.Rules.{clause_forces, row_forces, says_unset, says_alone, says_follows, dead_breaks}
use Rattle.search_theory.proofs.Forcing.{quiet_none, keeping_still, runs_alike, force_steps, forced_ends, ends_forced}
use Rattle.search_theory.proofs.Orders.{same_search}
use Rattle.rules.specs.Constraints.{is_odd}
use Rattle.std.proofs.Common.{suc}
use Rattle.search_theory.proofs.forcing_settled.Goals as goal

pub returns : goal.returns
returns c =
    record {
      clause_forces = clause_forces;
      row_forces = λ p vs ws v side s. row_forces p s vs ws v (is_odd side);
      was_unset = says_unset;
      others_set = says_alone;
      follows = says_follows;
      dead_breaks = dead_breaks;
      quiet = quiet_none;
      keeping_still = keeping_still;
      runs_alike = runs_alike;
      forced_runs = λ n system o p. (force_steps (suc n) system p, forced_ends n system o p);
      ends_forced = ends_forced;
      same_search = λ n k system o. same_search n system o k;
    }
