use Rattle.std.proofs.Common.{◌≡◌, Ok, rules}
use Rattle.rules.specs.Constraints.{clause, parity}
use Rattle.rules.specs.Entries.{built}
use Rattle.rules.specs.Views.{literals_of, switches_of}
use Rattle.rules.proofs.Lawfuls.{built_lawful, lawful_by_place}
use Rattle.rules.proofs.building.build_rule.Goals as goal

pub returns-in-Clause : goal.returns-in-Clause
returns-in-Clause c =
    let whole : Ok (clause (literals_of c.clause_of.result)) ≡ built c.args.kind c.args.n c.args.entries.now = search rules in
    record { value = whole; lawful = lawful_by_place _ _ (built_lawful c.args.kind c.args.n c.args.entries.now _ whole) }

pub returns-in-Parity : goal.returns-in-Parity
returns-in-Parity c =
    let whole : Ok (parity (switches_of c.parity_of.result) c.parity_of.result.side) ≡ built c.args.kind c.args.n c.args.entries.now = search rules in
    record { value = whole; lawful = lawful_by_place _ _ (built_lawful c.args.kind c.args.n c.args.entries.now _ whole) }
