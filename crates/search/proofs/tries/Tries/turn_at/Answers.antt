use Rattle.std.proofs.Common.{get_or, refl, rules}
use Rattle.search.specs.Stacks.{no_try, turned}
use Rattle.search.proofs.Tables.{tops}
use Rattle.search.proofs.tries.Tries.turn_at.Goals as goal

pub returns-clause-tops : goal.returns-clause-tops
returns-clause-tops c = tops c.args.self.now c.args.at (turned (get_or c.args.self.now.table c.args.at no_try)) (search rules) _ (search rules) refl
