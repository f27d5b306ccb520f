-- A file that is read back.
use Rattle.std.specs.Prelude.{◌≡◌, ℕ, ◌↔◌, List, take, Ok, Err, Result}
use Rattle.rules.specs.declared.faults.Fault.{Fault}
use Rattle.rules.specs.Settings.{Setting}
use Rattle.rules.specs.Constraints.{Keeps}
use Rattle.sheets.specs.Meaning.{Meaning}
use Rattle.files.specs.FirstFormat.{first_year}
use Rattle.files.specs.Files.{file}

-- the bytes pass the first-year check, and the sheet that they mean has as many switches as m and is kept by the same settings
pub record MeansTheSame (bytes : List ℕ) (m : Meaning) : Type 0 where
  pub read : Meaning
  pub passes : file first_year bytes ≡ Ok read
  pub switches : read.switches ≡ m.switches
  pub settings : (s : Setting) → Keeps read.rules s ↔ Keeps m.rules s

-- of what was accepted: the part of the buffer whose length was told
abbrev pub ReadsBack : Meaning → List ℕ → Result ℕ Fault → Type 0
ReadsBack m new (Ok n) = MeansTheSame (take n new) m
ReadsBack m new (Err f) = Unit {0}
