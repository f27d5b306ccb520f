-- A sheet in DIMACS CNF: clauses as stock solvers read them, parity rules as lines that begin with x.
use Rattle.std.specs.Prelude.{ℕ, cond, List, [], ◌++◌, length, codes, decimal}
use Rattle.std.specs.List.{flat_map}
use Rattle.rules.specs.declared.literals.Literal.{Literal}
use Rattle.rules.specs.declared.kinds.Kind.{Kind}
use Rattle.rules.specs.declared.kinds.Kind.TheVariants.{Clause, Parity}
use Rattle.rules.specs.declared.kinds.Side.TheVariants.{Even, Odd}
use Rattle.rules.specs.Constraints.{Constraint, kind, entries}
use Rattle.sheets.specs.Meaning.{Meaning}

-- a literal as a number with its sign, and a space
abbrev pub entry_text : Literal → List ℕ
entry_text l = cond l.on (decimal l.switch ++ codes " ") (codes "-" ++ (decimal l.switch ++ codes " "))

-- what the line of a rule opens with
abbrev pub prefix : Kind → List ℕ
prefix Clause = []
prefix (Parity Odd) = codes "x"
prefix (Parity Even) = codes "x-"

-- the line of a rule: its entries, ended by 0
abbrev pub rule_line : Constraint → List ℕ
rule_line r = prefix (kind r) ++ (flat_map entry_text (entries r) ++ codes "0\n")

-- p cnf SWITCHES RULES
abbrev pub head_line : Meaning → List ℕ
head_line m = codes "p cnf " ++ (decimal m.switches ++ (codes " " ++ (decimal (length m.rules) ++ codes "\n")))

-- the head, then a line for each rule in its order
abbrev pub cnf_text : Meaning → List ℕ
cnf_text m = head_line m ++ flat_map rule_line m.rules
