-- The two lines of a report: V switches R rules F freedom, and the end of a settle.
use Rattle.std.specs.Prelude.{ℕ, Bool, cond, List, ◌++◌, Some, None, codes, decimal, Option}
use Rattle.std.specs.List.{flat_map}
use Rattle.session_theory.specs.Session.{End, found, none, spent}

-- a number, or - where it is absent
abbrev pub freedom_text : Option ℕ → List ℕ
freedom_text (Some f) = decimal f
freedom_text None = codes "-"

-- V n R m F f: the number of switches, of rules, and the freedom
abbrev pub head_line : ℕ → ℕ → Option ℕ → List ℕ
head_line n m f = codes "V " ++ (decimal n ++ (codes " R " ++ (decimal m ++ (codes " F " ++ (freedom_text f ++ codes "\n")))))

-- 1 for on, 0 for off
abbrev pub value_text : Bool → List ℕ
value_text b = cond b (codes "1") (codes "0")

-- the end and the tries, and where a setting was found its values, switch 1 first
abbrev pub end_line : End → ℕ → List ℕ
end_line (found values) tries = codes "found " ++ (decimal tries ++ (codes " " ++ (flat_map value_text values ++ codes "\n")))
end_line none tries = codes "none " ++ (decimal tries ++ codes "\n")
end_line spent tries = codes "spent " ++ (decimal tries ++ codes "\n")

-- the two lines
abbrev pub report_lines : ℕ → ℕ → Option ℕ → End → ℕ → List ℕ
report_lines n m f e tries = head_line n m f ++ end_line e tries
