-- What a session tells, as the report has it.
use Rattle.std.proofs.Common.{◌≡◌, ℕ, length, Ok, Err, Option, Result, sym, refl, ap, ◌∙◌}
use Rattle.rules.specs.declared.faults.Fault.{Fault}
use Rattle.sheets.specs.Meaning.{Meaning, check_of, or_blank}
use Rattle.parity_theory.specs.Reducing.{freedom}
use Rattle.session_theory.specs.Session.{Session, End, opened, size, rules, end_at, settled_course, settled_tries, freedom_told, settled, Happens}
use Rattle.report.specs.Lines.{report_lines}
use Rattle.report.specs.Reports.{report_budget, told_by, sheet_report, report_of}

free_is : (s t : Session) (f : Option ℕ) → Happens s (freedom_told f) t → f ≡ freedom (size s) (rules s)
unfolding Happens
free_is s t f h = h.0

settled_is : (s t : Session) (b : ℕ) (e : End) (k : ℕ) → Happens s (settled b e k) t → (e ≡ end_at (settled_course s b)) × (k ≡ settled_tries s b)
unfolding Happens
settled_is s t b e k h = h.0

pub told_lines : (m : Meaning) (s t u : Session) (n k : ℕ) (f : Option ℕ) (e : End) (tries : ℕ) → s ≡ opened m → n ≡ m.switches → k ≡ length m.rules → Happens s (freedom_told f) t → Happens s (settled report_budget e tries) u → report_lines n k f e tries ≡ sheet_report m
told_lines m s t u n k f e tries op a b free went =
    let d = settled_is s u report_budget e tries went in
    (λ i. report_lines (a i) (b i) (free_is s t f free i) (d.0 i) (d.1 i)) ∙ ap (told_by m) op

pub refused_is : (x : Result Meaning Fault) (f : Fault) → Err f ≡ check_of x → x ≡ Err f
refused_is (Ok m) f h = cc
refused_is (Err g) f h = cc

pub accepted_is : (x : Result Meaning Fault) (u : Unit {0}) (m : Meaning) → Ok u ≡ check_of x → m ≡ or_blank x → x ≡ Ok m
accepted_is (Ok k) u m h same = ap Ok (sym same)
accepted_is (Err g) u m h same = cc

pub accepted_report : (x : Result Meaning Fault) (u : Unit {0}) → Ok u ≡ check_of x → sheet_report (or_blank x) ≡ report_of x
accepted_report x u h = ap report_of (sym (accepted_is x u (or_blank x) h refl))
