-- Faults: the numbers of their causes, the words for their layers, and the text of a refusal.
use Rattle.std.specs.Prelude.{ℕ, List, ◌++◌, codes, decimal}
use Rattle.rules.specs.declared.faults.Cause.{Cause}
use Rattle.rules.specs.declared.faults.Cause.TheVariants.{Head, SwitchCount, Form, Width, Entry, Repeat, RuleCount, ShortBuffer, PlacedTooHigh, PairTooLong, ParityTooWide, TooManyRecords, MarginFull, NothingFound}
use Rattle.rules.specs.declared.faults.Layer.{Layer}
use Rattle.rules.specs.declared.faults.Layer.TheVariants.{File, Table, Pile, Session, Writer}
use Rattle.rules.specs.declared.faults.Fault.{Fault}
use Rattle.rules.specs.declared.faults.Misfit.{Misfit}

-- the number by which a refusal is told; docs/refusals.md says when each is given
abbrev pub number : Cause → ℕ
number Head = 1
number SwitchCount = 2
number Form = 3
number Width = 4
number Entry = 5
number Repeat = 6
number RuleCount = 7
number ShortBuffer = 8
number PlacedTooHigh = 9
number PairTooLong = 10
number ParityTooWide = 11
number TooManyRecords = 12
number MarginFull = 13
number NothingFound = 14

-- a fault: its layer, its cause, the count of rules before it and its place
abbrev pub fault : Layer → Cause → ℕ → ℕ → Fault
fault l c r p = record { layer = l; cause = c; «record» = r; place = p }

-- what is wrong with one rule, and at which of its entries
abbrev pub misfit : Cause → ℕ → Misfit
misfit c i = record { cause = c; index = i }

-- the word for a layer
abbrev pub layer_word : Layer → List ℕ
layer_word File = codes "file"
layer_word Table = codes "table"
layer_word Pile = codes "pile"
layer_word Session = codes "session"
layer_word Writer = codes "writer"

-- refused NUMBER LAYER RECORD PLACE
abbrev pub fault_text : Fault → List ℕ
fault_text f =
    codes "refused " ++ (decimal (number f.cause) ++ (codes " " ++ (layer_word f.layer ++ (codes " " ++ (decimal f.«record» ++ (codes " " ++ decimal f.place))))))
