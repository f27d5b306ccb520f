-- Lemmas for the laws of the formats: rule records that lie within their bytes and are lawful.
use Rattle.std.specs.Prelude.{◌≡◌, ℕ, ◌+◌, ◌*◌, ◌≤◌, Bool, true, false, List, length, ℤ, Ok, Err, Result, refl}
use Rattle.std.proofs.Common.{arith}
use Rattle.rules.specs.declared.kinds.Kind.{Kind}
use Rattle.rules.specs.declared.faults.Misfit.{Misfit}
use Rattle.rules.specs.Constraints.{Constraint}
use Rattle.rules.specs.Entries.{built}
use Rattle.rules.proofs.Lawfuls.{built_lawful}
use Rattle.files.specs.declared.records.Flaw.{Flaw}
use Rattle.files.specs.Formats.{RuleRead, Sound, demand, framed}
use Rattle.files.specs.Misfits.{misfit_within}

pub sound_demand : (n l : ℕ) (b : Bool) (e : Flaw) (later : Result RuleRead Flaw) → e.offset ≤ l → (b ≡ true → Sound n l later) → Sound n l (demand b e later)
sound_demand n l true e later at h = h refl
sound_demand n l false e later at h = at

pub sound_framed : (n l : ℕ) (k : Kind) (es : List ℤ) (first size : ℕ) → size ≤ l → first + 2 * length es ≤ l → Sound n l (framed first size (built k n es))
sound_framed n l k es first size whole at = by (built k n es) refl
  where
    by : (r : Result Constraint Misfit) → r ≡ built k n es → Sound n l (framed first size r)
    by (Ok r) h = (whole, built_lawful k n es r h)
    by (Err m) h = let within = misfit_within k n es m h in omega arith
