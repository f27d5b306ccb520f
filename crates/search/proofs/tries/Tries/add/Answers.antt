use Rattle.std.proofs.Common.{◌+◌, false, set, refl, rules}
use Rattle.search.proofs.Tables.{tops}
use Rattle.search.proofs.tries.Tries.add.Goals as goal

pub returns : goal.returns
returns c =
    tops c.args.self.now c.args.self.now.count (record { switch = c.args.switch; on = false }) (search rules)
    (record { table = set c.args.self.now.table c.args.self.now.count (record { switch = c.args.switch; on = false }); count = c.args.self.now.count + 1 }) refl refl
