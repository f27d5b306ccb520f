-- What an elimination under way has.
use Rattle.std.specs.Prelude.{List, map, vec_items}
use Rattle.parity_theory.specs.Reducing.{Row}
use Rattle.parity.specs.declared.elimination.Elimination.{Elimination}
use Rattle.parity.specs.Views.{solved_row}

-- the rows so far
abbrev pub rows_so_far : Elimination → List Row
rows_so_far e = map solved_row (vec_items e.rows)
