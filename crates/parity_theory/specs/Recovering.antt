-- The equations of the parity rules that stand, computed.
use Rattle.std.specs.Prelude.{ℕ, Bool, false, not, ◌&&◌, ◌||◌, List, [], ◌∷◌, ◌++◌, map, length, filter, ◌==◌, nat_le}
use Rattle.rules.specs.declared.literals.Literal.{Literal}
use Rattle.rules.specs.declared.kinds.Side.{Side}
use Rattle.rules.specs.First.{every}
use Rattle.rules.specs.Constraints.{Constraint, clause, parity, xor, same, switch_of, side_when}
use Rattle.parity_theory.specs.Equations.{Equation, equation, same_equation}
use Rattle.parity_theory.specs.Writing.{written_out}

-- the clauses among the rules, in their order
abbrev pub clauses : List Constraint → List (List Literal)
clauses [] = []
clauses (clause ls ∷ rules) = ls ∷ clauses rules
clauses (parity vs side ∷ rules) = clauses rules

-- the equations of the parity rules among them, in their order
abbrev pub named : ℕ → List Constraint → List Equation
named n [] = []
named n (clause ls ∷ rules) = named n rules
named n (parity vs side ∷ rules) = equation n vs side ∷ named n rules

-- some element passes the test
abbrev pub any : {X : Type 0} → (X → Bool) → List X → Bool
any t [] = false
any t (x ∷ xs) = t x || any t xs

-- the same switch with the same value
abbrev pub same_literal : Literal → Literal → Bool
same_literal l m = l.switch == m.switch && same l.on m.on

-- each literal of ls is one of ms
abbrev pub contained : List Literal → List Literal → Bool
contained ls ms = every (λ l. any (same_literal l) ms) ls

-- the same literals, whatever their order and however often
abbrev pub alike : List Literal → List Literal → Bool
alike ls ms = contained ls ms && contained ms ls

-- an odd number of the literals is negated
abbrev pub odd_negations : List Literal → Bool
odd_negations [] = false
odd_negations (l ∷ ls) = xor (not l.on) (odd_negations ls)

-- the side of the parity rule that the clause may belong to: the setting that breaks the clause has as many
-- of its switches on as the clause has negations, and breaks the rule
abbrev pub side_of : List Literal → Side
side_of ls = side_when (not (odd_negations ls))

-- only a clause of 1 to 5 literals belongs to a parity rule
abbrev pub narrow : List Literal → Bool
narrow ls = nat_le 1 (length ls) && nat_le (length ls) 5

-- every clause of the parity rule, written out, is among the clauses
abbrev pub all_there : List (List Literal) → List ℕ → Side → Bool
all_there cs vs side = every (λ c. any (alike c) cs) (written_out vs side)

-- the clauses have a parity rule of which ls is one
abbrev pub recovers : List (List Literal) → List Literal → Bool
recovers cs ls = all_there cs (map switch_of ls) (side_of ls)

-- the equation of the parity rule to which the clause may belong
abbrev pub equation_of : ℕ → List Literal → Equation
equation_of n ls = equation n (map switch_of ls) (side_of ls)

-- each equation once, where it comes first
abbrev pub firsts : List Equation → List Equation
firsts [] = []
firsts (e ∷ es) = e ∷ filter (λ x. not (same_equation e x)) (firsts es)

-- the equation of the recovered parity rule of each clause that belongs to one
abbrev pub equations_of : ℕ → List (List Literal) → List Equation
equations_of n cs = map (equation_of n) (filter (recovers cs) (filter narrow cs))

-- the equations of the recovered parity rules
abbrev pub recover : ℕ → List Constraint → List Equation
recover n rules = firsts (equations_of n (clauses rules))

-- the equations of the parity rules that stand: the named, then the recovered
abbrev pub parities : ℕ → List Constraint → List Equation
parities n rules = named n rules ++ recover n rules
