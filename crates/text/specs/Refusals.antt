-- The line that tells a refusal, and the text of an error.
use Rattle.std.specs.Prelude.{ℕ, List, ◌++◌, codes}
use Rattle.rules.specs.declared.faults.Fault.{Fault}
use Rattle.rules.specs.Faults.{fault_text}
use Rattle.text.specs.declared.errors.TextError.{TextError}
use Rattle.text.specs.declared.errors.TextError.TheVariants.{Refused, Memory}

-- refused NUMBER LAYER RECORD PLACE, and a line's end
abbrev pub refused_line : Fault → List ℕ
refused_line f = fault_text f ++ codes "\n"

-- the text of an error
abbrev pub error_text : TextError → List ℕ
error_text (Refused f) = fault_text f
error_text Memory = codes "want of memory"
