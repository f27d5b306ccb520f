-- Where a rule of a pair stands.
use Rattle.std.specs.Prelude.{Some, None, Option}
use Rattle.std.specs.List.{slice_get}
use Rattle.rules.specs.Constraints.{Constraint}
use Rattle.sheets.specs.declared.pair.Place.{Place}
use Rattle.sheets.specs.declared.pair.Place.TheVariants.{First, Second}
use Rattle.sheets.specs.Meaning.{Meaning}

-- the rule of two sheets that stands at the place, where there is one
abbrev pub rule_in : Meaning → Meaning → Option Place → Option Constraint
rule_in a b None = None
rule_in a b (Some (First k)) = slice_get a.rules k
rule_in a b (Some (Second k)) = slice_get b.rules k
