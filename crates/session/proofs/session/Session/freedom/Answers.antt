use Rattle.std.proofs.Common.{rules}
use Rattle.std.proofs.lemmas.Grind.{common_steps}
use Rattle.session_theory.specs.Session.{Happens}
use Rattle.session.proofs.Copied.{lawfully}
use Rattle.session.proofs.session.Session.freedom.Goals as goal

pub returns-clause-lawful : goal.returns-clause-lawful
unfolding Happens
returns-clause-lawful c = lawfully _ _ _ (search (rules, common_steps))
