-- A sheet file as text.
use Rattle.std.specs.Prelude.{ℕ, List, Ok, Err, Result}
use Rattle.rules.specs.declared.faults.Fault.{Fault}
use Rattle.sheets.specs.Meaning.{Meaning}
use Rattle.files.specs.Any.{any_file}
use Rattle.text.specs.Refusals.{refused_line}
use Rattle.cnf.specs.Dimacs.{cnf_text}

-- the text of what a file means, or of its fault
abbrev pub text_of : Result Meaning Fault → List ℕ
text_of (Ok m) = cnf_text m
text_of (Err f) = refused_line f

-- the sheet in DIMACS CNF, or the line that tells why the file is refused
abbrev pub converted : List ℕ → List ℕ
converted bs = text_of (any_file bs)
