-- What is reported of a sheet file.
use Rattle.std.specs.Prelude.{◌≡◌, ℕ, List, length, Ok, Err, Result}
use Rattle.rules.specs.declared.faults.Fault.{Fault}
use Rattle.sheets.specs.Meaning.{Meaning}
use Rattle.sheets.specs.Views.{tabled}
use Rattle.sheets.specs.declared.table.Table.{Table}
use Rattle.files.specs.Any.{any_file}
use Rattle.text.specs.Refusals.{refused_line}
use Rattle.text.specs.declared.errors.TextError.{TextError}
use Rattle.text.specs.declared.errors.TextError.TheVariants.{Refused, Memory}
use Rattle.parity_theory.specs.Reducing.{freedom}
use Rattle.session_theory.specs.Session.{Session, opened, size, rules, end_at, settled_course, settled_tries}
use Rattle.report.specs.Lines.{report_lines}

-- the budget of tries of a report
abbrev pub report_budget : ℕ
report_budget = 1000000

-- what a session over the sheet m tells: its freedom, and how a settle with that budget ends
abbrev pub told_by : Meaning → Session → List ℕ
told_by m s =
    report_lines m.switches (length m.rules) (freedom (size s) (rules s)) (end_at (settled_course s report_budget)) (settled_tries s report_budget)

-- the report on a sheet: what a session tells that is opened over it
abbrev pub sheet_report : Meaning → List ℕ
sheet_report m = told_by m (opened m)

-- the report on what a file means, or the line of its fault
abbrev pub report_of : Result Meaning Fault → List ℕ
report_of (Ok m) = sheet_report m
report_of (Err f) = refused_line f

-- the report on the sheet of a file, or the line that tells why the file is refused
abbrev pub file_report : List ℕ → List ℕ
file_report bs = report_of (any_file bs)

-- the table of a file without fault, or the fault for which the file is refused; or there was want of memory
abbrev pub TableOr : List ℕ → Result Table TextError → Type 0
TableOr bs (Ok t) = any_file bs ≡ Ok (tabled t)
TableOr bs (Err (Refused f)) = any_file bs ≡ Err f
TableOr bs (Err Memory) = Unit {0}
