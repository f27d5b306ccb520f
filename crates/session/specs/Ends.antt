-- What a settle tells, as the definitions have it.
use Rattle.std.specs.Prelude.{ℕ, Bool, List, take}
use Rattle.search.specs.declared.progress.End.{End}
use Rattle.search.specs.declared.progress.End.TheVariants.{Spent, Found, None}
use Rattle.search.specs.declared.progress.Progress.{Progress}
use Rattle.session_theory.specs.Session as theory
use Rattle.session.specs.declared.ends.Setting.{Setting}

-- the values of a setting
abbrev pub values_in : Setting → List Bool
values_in s = take s.width s.values

-- the end of a settle, as the definitions have it
abbrev pub end_in : End Setting → theory.End
end_in Spent = theory.spent
end_in (Found s) = theory.found (values_in s)
end_in None = theory.none

-- a settle with its reply
abbrev pub settle_entry : ℕ → Progress Setting → theory.Entry
settle_entry b r = theory.settled b (end_in r.end) r.tries
