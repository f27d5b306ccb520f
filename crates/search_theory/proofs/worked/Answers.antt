use Rattle.std.proofs.Common.{refl}
use Rattle.search_theory.proofs.worked.Goals as goal

pub returns : goal.returns
returns c = ((refl, refl), ((refl, refl), ((refl, refl), ((refl, refl), tt))))
