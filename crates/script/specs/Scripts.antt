-- A script: a sheet and calls, and the text that answers it.
use Rattle.std.specs.Prelude.{◌≡◌, ℕ, ◌+◌, cond, List, [], ◌∷◌, map, length, take, drop, Some, None, codes, Option, nat_le}
use Rattle.std.specs.Option.{option_map}
use Rattle.sheets.specs.Meaning.{Meaning, check_of, or_blank}
use Rattle.sheets.specs.Piles.{placing_check, placed, pair_check, paired}
use Rattle.files.specs.Any.{any_file}
use Rattle.session.specs.declared.call.Call.{Call}
use Rattle.session.specs.declared.call.Reply.{Reply}
use Rattle.session.specs.Drives.{Performed}
use Rattle.script.specs.declared.head.Shape.{Shape}
use Rattle.script.specs.declared.head.Shape.TheVariants.{Plain, Placed, Paired, Stacked}
use Rattle.script.specs.declared.head.Head.{Head}
use Rattle.script.specs.Heads.{head_at}
use Rattle.script.specs.Asked.{Asked, asked, calls_in}
use Rattle.script.specs.Lines.{Verdict, answer_text}

-- THE SHEET, made of the files a and b

-- the sheet of a file, blank where it is refused
abbrev pub sheet_of : List ℕ → Meaning
sheet_of a = or_blank (any_file a)

abbrev pub pair_of : ℕ → List ℕ → List ℕ → Meaning
pair_of k a b = paired (placed (sheet_of a) k) (sheet_of b)

abbrev pub sheet_in : Shape → ℕ → List ℕ → List ℕ → Meaning
sheet_in Plain k a b = sheet_of a
sheet_in Placed k a b = placed (sheet_of a) k
sheet_in Paired k a b = pair_of k a b
sheet_in Stacked k a b = paired (pair_of k a b) (sheet_of a)

abbrev pub file_verdict : List ℕ → Verdict
file_verdict a = check_of (any_file a)

abbrev pub placing_verdict : ℕ → List ℕ → Verdict
placing_verdict k a = placing_check (sheet_of a) k

abbrev pub pair_verdict : ℕ → List ℕ → List ℕ → Verdict
pair_verdict k a b = pair_check (placed (sheet_of a) k) (sheet_of b)

-- the verdicts on its makings
abbrev pub verdicts_on : Shape → ℕ → List ℕ → List ℕ → List Verdict
verdicts_on Plain k a b = file_verdict a ∷ []
verdicts_on Placed k a b = file_verdict a ∷ placing_verdict k a ∷ []
verdicts_on Paired k a b = file_verdict a ∷ placing_verdict k a ∷ file_verdict b ∷ pair_verdict k a b ∷ []
verdicts_on Stacked k a b = file_verdict a ∷ placing_verdict k a ∷ file_verdict b ∷ pair_verdict k a b ∷ pair_check (pair_of k a b) (sheet_of a) ∷ []

-- THE SCRIPT

pub record Script : Type 0 where
  pub shape : Shape
  pub by : ℕ
  pub first : List ℕ
  pub second : List ℕ
  pub calls : List Asked

-- the number of bytes before the calls
abbrev pub before_calls : Head → ℕ
before_calls h = 11 + h.first + h.second

abbrev pub script_with : List ℕ → Head → List Asked → Script
script_with bs h cs =
    record { shape = h.shape; by = h.by; first = take h.first (drop 11 bs); second = take h.second (drop (11 + h.first) bs); calls = cs }

-- after the head both files are present, then the calls, and nothing behind them
abbrev pub after_head : List ℕ → Option Head → Option Script
after_head bs None = None
after_head bs (Some h) = cond (nat_le (before_calls h) (length bs)) (option_map (script_with bs h) (calls_in h.calls (drop (before_calls h) bs))) None

abbrev pub script_in : List ℕ → Option Script
script_in bs = after_head bs (head_at bs)

-- THE ANSWER

-- the calls got replies on a session that was opened over m, and the text tells the refusals among the verdicts,
-- the size of m and the replies
pub record Told (verdicts : List Verdict) (m : Meaning) (cs : List Call) (text : List ℕ) : Type 0 where
  pub replies : List Reply
  pub performed : Performed m cs replies
  pub says : text ≡ answer_text verdicts m.switches (length m.rules) replies

abbrev pub ToldOf : Shape → ℕ → List ℕ → List ℕ → List Call → List ℕ → Type 0
ToldOf shape k a b cs text = Told (verdicts_on shape k a b) (sheet_in shape k a b) cs text

abbrev pub no_script : List ℕ
no_script = codes "not a script\n"

abbrev pub Answered : Option Script → List ℕ → Type 0
Answered None text = text ≡ no_script
Answered (Some s) text = (cs : List Call) × (map asked cs ≡ s.calls) × ToldOf s.shape s.by s.first s.second cs text
