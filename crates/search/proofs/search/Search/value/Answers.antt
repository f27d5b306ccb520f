use Rattle.std.proofs.Common.{◌∙◌}
use Rattle.search.specs.Moves.{rules_of}
use Rattle.search.proofs.Standing.{standing_of}
use Rattle.search.proofs.Reduction.{reduced_of}
use Rattle.search.proofs.Endings.{found_value}
use Rattle.search.proofs.search.Search.value.Goals as goal

pub returns-clause-found : goal.returns-clause-found
returns-clause-found c =
    let s = c.args.self.now in
    λ vs e w. c.get.ensures ∙ found_value s.system.switches (rules_of s.system) (reduced_of s.system) s.state (standing_of s) vs e c.args.switch w
