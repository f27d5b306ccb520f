-- What each reader of a part of a script gives.
use Rattle.std.specs.Prelude.{◌≡◌, List, map, Some, None, Ok, Err, vec_items, Option, Result, Vec}
use Rattle.std.specs.declared.alloc.Global.{Global}
use Rattle.session.specs.declared.call.Call.{Call}
use Rattle.script.specs.declared.errors.ScriptError.{ScriptError}
use Rattle.script.specs.declared.errors.ScriptError.TheVariants.{Form, Memory}
use Rattle.script.specs.declared.reading.CallRecord.{CallRecord}
use Rattle.script.specs.declared.answering.Script.{Script}
use Rattle.script.specs.Asked.{Asked, AskedAt, asked, before}
use Rattle.script.specs.Scripts as scripts

-- what a record in the code stands for
abbrev pub read_as : CallRecord → AskedAt
read_as r = before r.rest.now (asked r.call)

-- the record is the one that the format has, or the format has none
abbrev pub RecordRead : Option AskedAt → Result CallRecord ScriptError → Type 0
RecordRead o (Ok r) = o ≡ Some (read_as r)
RecordRead o (Err Form) = o ≡ None
RecordRead o (Err Memory) = Unit {0}

-- the same of a list of calls
abbrev pub CallsRead : Option (List Asked) → Result (Vec Call Global) ScriptError → Type 0
CallsRead o (Ok v) = o ≡ Some (map asked (vec_items v))
CallsRead o (Err Form) = o ≡ None
CallsRead o (Err Memory) = Unit {0}

-- a script of the code has what the format has
abbrev pub script_is : Script → scripts.Script
script_is s = record { shape = s.shape; by = s.by; first = s.first.now; second = s.second.now; calls = map asked (vec_items s.calls) }

-- the same of a script
abbrev pub ScriptRead : Option scripts.Script → Result Script ScriptError → Type 0
ScriptRead o (Ok s) = o ≡ Some (script_is s)
ScriptRead o (Err Form) = o ≡ None
ScriptRead o (Err Memory) = Unit {0}
