-- An end turned into another by what is made of what was found.
use Rattle.std.specs.Prelude.{◌≡◌}
use Rattle.search.specs.declared.progress.End.{End}
use Rattle.search.specs.declared.progress.End.TheVariants.{Spent, Found, None}

-- P holds of what was found
abbrev pub ForFound : {F : Type 0} → End F → (F → Type 0) → Type 0
ForFound Spent P = Unit {0}
ForFound (Found x) P = P x
ForFound None P = Unit {0}

-- e is the same end, with what R relates to what was found
abbrev pub SameEnd : {F G : Type 0} → (F → G → Type 0) → End F → End G → Type 0
SameEnd R Spent e = e ≡ Spent
SameEnd R (Found x) e = (y : _) × (e ≡ Found y) × R x y
SameEnd R None e = e ≡ None
