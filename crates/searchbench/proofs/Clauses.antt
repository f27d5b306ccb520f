-- Lawful clauses alone are a reduced system.
use Rattle.std.proofs.Common.{◌≡◌, ℕ, ◌<◌, true, leb, List, [], ◌∷◌, ◌++◌, map, length, get_or, sym, ap, ◌∙◌, arith}
use lib.ListN.{length-map}
use Rattle.std.proofs.lemmas.List.{get_or-map, map_push}
use Rattle.std.proofs.lemmas.Bool.{and_parts, leb-true}
use Rattle.rules.specs.declared.literals.Literal.{Literal}
use Rattle.rules.specs.declared.clauses.Clause.{Clause}
use Rattle.rules.specs.declared.rule.Rule.{Rule}
use Rattle.rules.specs.declared.rule.Rule.TheVariants.{Clause as RuleClause}
use Rattle.rules.specs.First.{every}
use Rattle.rules.specs.Settings.{Within}
use Rattle.rules.specs.Constraints.{Constraint, Each, kind, switches, switch_of}
use Rattle.rules.specs.Lawful.{lawful, width_fits, inside}
use Rattle.rules.specs.Rows.{Member, Apart, Reduced}
use Rattle.rules.specs.Views.{constraint, clause_constraint}
use Rattle.rules.proofs.Lawfuls.{every_at, every_push}

within : (n : ℕ) (ls : List Literal) → every (inside n) (map switch_of ls) ≡ true → Each (λ l. Within n l.switch) ls
within n [] h = tt
within n (l ∷ ls) h =
    let a = and_parts (inside n l.switch) (every (inside n) (map switch_of ls)) h in
    let b = and_parts (leb 1 l.switch) (leb l.switch n) a.0 in
    ((leb-true _ _ b.0, leb-true _ _ b.1), within n ls a.1)

members : (n : ℕ) (system : List Constraint) (cs : List Clause) → every (lawful n) (map clause_constraint cs) ≡ true → Each (Member n system) (map clause_constraint cs)
members n system [] h = tt
members n system (c ∷ cs) h =
    let r = clause_constraint c in
    let a = and_parts (lawful n r) (every (lawful n) (map clause_constraint cs)) h in
    let b = and_parts (width_fits (kind r) (length (switches r))) _ a.0 in
    let d = and_parts (every (inside n) (switches r)) _ b.1 in
    (within n _ d.0, members n system cs a.1)

apart : (cs : List Clause) → Apart (map clause_constraint cs)
apart [] = tt
apart (c ∷ cs) = apart cs

pub clauses_reduced : (n : ℕ) (cs : List Clause) → every (lawful n) (map clause_constraint cs) ≡ true → Reduced n (map clause_constraint cs)
clauses_reduced n cs h = record { members = members n (map clause_constraint cs) cs h; apart = apart cs }

-- one more clause among the rules, pushed behind those before it
pub pushed_lawful : (n : ℕ) (rules : List Rule) (i : ℕ) (rule : Rule) (c : Clause) (cs new : List Clause) → every (lawful n) (map constraint rules) ≡ true → i < length rules → rule ≡ get_or rules i rule → rule ≡ RuleClause c → new ≡ cs ++ c ∷ [] → every (lawful n) (map clause_constraint cs) ≡ true → every (lawful n) (map clause_constraint new) ≡ true
pushed_lawful n rules i rule c cs new all lt is so grown before =
    let long = length-map rules constraint in
    let there = every_at (lawful n) (map constraint rules) (constraint rule) all i (omega arith) in
    let here : get_or (map constraint rules) i (constraint rule) ≡ clause_constraint c = get_or-map constraint rules i rule (constraint rule) lt ∙ ap constraint (sym is ∙ so) in
    let good : lawful n (clause_constraint c) ≡ true = ap (lawful n) (sym here) ∙ there in
    ap (every (lawful n)) (ap (map clause_constraint) grown ∙ map_push clause_constraint cs c) ∙ every_push (lawful n) (map clause_constraint cs) (clause_constraint c) before good
