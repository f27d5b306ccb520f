-- What the values of the code stand for.
use Rattle.std.specs.Prelude.{map, vec_items}
use Rattle.rules.specs.Views.{constraint}
use Rattle.sheets.specs.Meaning.{Meaning}
use Rattle.sheets.specs.Tables.{Draft, over}
use Rattle.sheets.specs.declared.raw.RawRule.{RawRule}
use Rattle.sheets.specs.declared.table.Table.{Table}

-- a rule from outside, as the definitions have it
abbrev pub draft : RawRule → Draft
draft r = record { kind = r.kind; entries = vec_items r.entries }

-- what a table in memory means
abbrev pub tabled : Table → Meaning
tabled t = over t.switches (map constraint (vec_items t.rules))
