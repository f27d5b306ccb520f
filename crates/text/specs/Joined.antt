-- The texts of several items as one.
use Rattle.std.specs.Prelude.{ℕ, List, [], ◌∷◌, Some, Option}
use Rattle.std.specs.Fmt.{◌++?◌}

-- the texts of the items in their order; nothing is said where the text of one of them is not known
abbrev pub joined : {X : Type 0} → (X → Option (List ℕ)) → List X → Option (List ℕ)
joined text [] = Some []
joined text (x ∷ xs) = text x ++? joined text xs
