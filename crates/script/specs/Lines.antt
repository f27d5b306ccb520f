-- The lines that answer a script.
use Rattle.std.specs.Prelude.{ℕ, List, [], ◌++◌, Ok, Err, vec_items, codes, decimal, Option, Result}
use Rattle.std.specs.List.{flat_map}
use Rattle.rules.specs.declared.faults.Fault.{Fault}
use Rattle.text.specs.Refusals.{refused_line}
use Rattle.report.specs.Lines.{freedom_text, end_line}
use Rattle.session.specs.declared.call.Reply.{Reply}
use Rattle.session.specs.declared.call.Reply.TheVariants.{Took, Free, Settled, Copied}
use Rattle.session.specs.Ends.{end_in}

-- accepted, or refused with a fault
abbrev pub Verdict : Type 0
Verdict = Result (Unit {0}) Fault

-- the word, or the refusal
abbrev pub verdict_line : List ℕ → Verdict → List ℕ
verdict_line word (Ok _) = word ++ codes "\n"
verdict_line word (Err f) = refused_line f

-- nothing, or the refusal
abbrev pub refusal_text : Verdict → List ℕ
refusal_text (Ok _) = []
refusal_text (Err f) = refused_line f

abbrev pub free_line : Option ℕ → List ℕ
free_line f = codes "free " ++ (freedom_text f ++ codes "\n")

-- a byte, behind a space
abbrev pub byte_text : ℕ → List ℕ
byte_text b = codes " " ++ decimal b

-- the verdict on a copy, then the bytes of its buffer
abbrev pub copied_lines : Verdict → List ℕ → List ℕ
copied_lines r bytes = verdict_line (codes "copied") r ++ (codes "buffer" ++ (flat_map byte_text bytes ++ codes "\n"))

abbrev pub reply_text : Reply → List ℕ
reply_text (Took r) = verdict_line (codes "took") r
reply_text (Free f) = free_line f
reply_text (Settled s) = end_line (end_in s.end) s.tries
reply_text (Copied r buffer) = copied_lines r (vec_items buffer)

-- the number of switches and of rules
abbrev pub sheet_line : ℕ → ℕ → List ℕ
sheet_line n m = codes "sheet " ++ (decimal n ++ (codes " " ++ (decimal m ++ codes "\n")))

-- the refusals among the verdicts, the size of a sheet and the replies
abbrev pub answer_text : List Verdict → ℕ → ℕ → List Reply → List ℕ
answer_text verdicts n m replies = (flat_map refusal_text verdicts ++ sheet_line n m) ++ flat_map reply_text replies
