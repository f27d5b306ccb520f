-- That a system is reduced has one proof at most, so that it can be taken out of a system's ghost field.
use Rattle.std.proofs.Common.{◌≡◌, ℕ, ◌≤◌, true, List, [], ◌∷◌, map, vec_items, arith}
use mathlib.Core.Logic.{∥∥₁_elim}
use mathlib.Core.Bool.{Bool-set}
use mathlib.Core.HLevel.{×_prop, ×₃_prop, Unit-prop, ⊥_prop}
use native.Mathlib.Bridge.{le_prop}
use Rattle.rules.specs.Settings.{Within}
use Rattle.rules.specs.Constraints.{Constraint, clause, parity, switches, Each}
use Rattle.rules.specs.Rows.{free, Falling, Member, Apart, Reduced}
use Rattle.rules.specs.Views.{clause_constraint, row_constraint}
use Rattle.search_theory.specs.Forcing.{Over}
use Rattle.search_theory.proofs.Finding.{each_map, reduced_over}
use Rattle.search_theory.proofs.Systems.{each_front, each_back}
use Rattle.search.specs.declared.system.System.{System}
use Rattle.search.specs.Moves.{rules_of}
use Rattle.search.proofs.Propositions.{within_prop, each_prop}

falling_prop : (b : ℕ) (vs : List ℕ) → IsProp (Falling b vs)
falling_prop b [] = Unit-prop
falling_prop b (v ∷ vs) = ×_prop le_prop (falling_prop v vs)

member_prop : (n : ℕ) (system : List Constraint) (r : Constraint) → IsProp (Member n system r)
member_prop n system (clause ls) = each_prop (λ l. Within n l.switch) (λ l. within_prop n l.switch) ls
member_prop n system (parity [] side) = ⊥_prop
member_prop n system (parity (d ∷ vs) side) =
    ×₃_prop (within_prop n d) (falling_prop d vs) (each_prop (λ v. (1 ≤ v) × (free system v ≡ true)) (λ v. ×_prop le_prop (Bool-set _ _)) vs)

apart_prop : (system : List Constraint) → IsProp (Apart system)
apart_prop [] = Unit-prop
apart_prop (clause ls ∷ rs) = apart_prop rs
apart_prop (parity [] side ∷ rs) = apart_prop rs
apart_prop (parity (d ∷ vs) side ∷ rs) = ×_prop (Bool-set _ _) (apart_prop rs)

reduced_prop : (n : ℕ) (system : List Constraint) → IsProp (Reduced n system)
reduced_prop n system x y = λ i. record {
  members = each_prop (Member n system) (member_prop n system) system x.members y.members i;
  apart = apart_prop system x.apart y.apart i;
}

pub reduced_of : (s : System) → Reduced s.switches (rules_of s)
reduced_of s = ∥∥₁_elim s.reduced (reduced_prop s.switches (rules_of s)) (λ h. h)

pub over_of : (s : System) → Over s.switches (rules_of s)
over_of s = reduced_over s.switches (rules_of s) (reduced_of s)

over_256 : (s : System) → Over 256 (rules_of s)
over_256 s =
    let few = s.few in
    each_map (λ r. Each (Within s.switches) (switches r)) (λ r. Each (Within 256) (switches r))
    (λ r. each_map (Within s.switches) (Within 256) (λ v w. (w.0, (let h = w.1 in omega arith))) (switches r)) (rules_of s) (over_of s)

pub clauses_over : (s : System) → Over 256 (map clause_constraint (vec_items s.clauses))
clauses_over s = each_front (λ r. Each (Within 256) (switches r)) (map clause_constraint (vec_items s.clauses)) (map row_constraint (vec_items s.rows)) (over_256 s)

pub rows_over : (s : System) → Over 256 (map row_constraint (vec_items s.rows))
rows_over s = each_back (λ r. Each (Within 256) (switches r)) (map clause_constraint (vec_items s.clauses)) (map row_constraint (vec_items s.rows)) (over_256 s)
