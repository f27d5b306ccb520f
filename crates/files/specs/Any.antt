-- A file of either generation, told by its second byte.
use Rattle.std.specs.Prelude.{ℕ, Bool, cond, List, Result, ◌==◌, slice_index}
use Rattle.rules.specs.declared.faults.Fault.{Fault}
use Rattle.sheets.specs.Meaning.{Meaning}
use Rattle.files.specs.FirstFormat.{first_year}
use Rattle.files.specs.ThirdFormat.{third_year}
use Rattle.files.specs.Files.{file}

-- the second byte is 33; a file without a second byte is read as first-year
abbrev pub is_third : List ℕ → Bool
is_third bs = slice_index bs 1 == 51

-- what the file means in its generation, or its fault
abbrev pub any_file : List ℕ → Result Meaning Fault
any_file bs = cond (is_third bs) (file third_year bs) (file first_year bs)
