-- What the values of the code say.
use Rattle.std.specs.Prelude.{ℕ, List, take, Option}
use Rattle.std.specs.List.{slice_get}
use Rattle.rules.specs.declared.literals.Literal.{Literal}
use Rattle.rules.specs.declared.clauses.Clause as code_clause
use Rattle.rules.specs.declared.parities.ParityRule.{ParityRule}
use Rattle.rules.specs.declared.rule.Rule.{Rule}
use Rattle.rules.specs.declared.rule.Rule.TheVariants.{Clause, Parity}
use Rattle.rules.specs.Constraints.{Constraint, clause, parity, entries}

-- the literals of a clause
abbrev pub literals_of : code_clause.Clause → List Literal
literals_of c = take c.width c.literals

-- the switches of a parity rule
abbrev pub switches_of : {N : ℕ} → ParityRule N → List ℕ
switches_of p = take p.width p.switches

-- the rule that a value of the code is
abbrev pub constraint : Rule → Constraint
constraint (Clause c) = clause (literals_of c)
constraint (Parity p) = parity (switches_of p) p.side

-- a row is a parity rule
abbrev pub row_constraint : {N : ℕ} → ParityRule N → Constraint
row_constraint r = parity (switches_of r) r.side

-- a clause is a rule
abbrev pub clause_constraint : code_clause.Clause → Constraint
clause_constraint c = clause (literals_of c)

-- entry j of a rule, absent past its end
abbrev pub entry_at : Constraint → ℕ → Option Literal
entry_at r j = slice_get (entries r) j
