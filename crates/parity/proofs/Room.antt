-- A reduced system over n switches has at most n rows.
use Rattle.std.proofs.Common.{◌≡◌, ℕ, suc, ◌<◌, ◌≤◌, Bool, List, [], ◌∷◌, map, length, Some, None, Option, sym, refl, ap, subst, arith}
use Rattle.std.proofs.lemmas.List.{length-map, length_push}
use Rattle.rules.specs.Settings.{Within}
use Rattle.rules.specs.Constraints.{Constraint, Each}
use Rattle.parity_theory.specs.Equations.{Equation}
use Rattle.parity_theory.specs.Recovering.{parities}
use Rattle.parity_theory.specs.Reducing.{Row, row, highest, cleared, without, joined, reduce, as_rule, as_rules, rows}
use Rattle.parity_theory.proofs.Lists.{each_append}
use Rattle.parity_theory.proofs.Bounds.{rows_reduced, dependents_within}
use Rattle.parity_theory.proofs.Members.{tally_absent}
use Rattle.parity_theory.proofs.Words.{parities_sized}
use Rattle.parity_theory.proofs.Rows.{dependents_proper}
use Rattle.parity_theory.proofs.Systems.{IsHighest, HighestRight, highest_right, Lacks, all_cleared, ReducedRows, ReducedIf, joined_reduced, reduce_reduced}
use Rattle.parity.specs.declared.equations.Solved.{Solved}
use Rattle.parity.specs.Views.{solved_row}

module _ (n : ℕ) where
  few_rows : (rs : List Row) → ReducedRows rs → Each (λ r. Within n r.dependent) rs → length rs ≤ n
  few_rows rs red within = let ds = map (λ (r : Row). r.dependent) rs in omega (arith, tally_absent n ds (dependents_proper n rs red within), length-map rs (λ (r : Row). r.dependent))

  -- the rows of rules over n switches
  pub rows_few : (rules rs : List Constraint) → rows n rules ≡ Some rs → length rs ≤ n
  rows_few rules rs h = by (reduce (parities n rules)) refl h
    where
      by : (o : Option (List Row)) → reduce (parities n rules) ≡ o → as_rules o ≡ Some rs → length rs ≤ n
      by None e k = let z : ◌≡◌ {A = ℕ} 0 1 = cc in absurd (omega arith)
      by (Some qs) e k =
          let p = rows_reduced n (parities n rules) qs (parities_sized n rules) e in
          let same : map as_rule qs ≡ rs = cc in
          omega (arith, few_rows qs p.0 (dependents_within n qs p.0 p.1), length-map qs as_rule, ap length same)

-- each dependent is one of 256 switches
each_within : (solved : List Solved) → Each (λ r. Within 256 r.dependent) (map solved_row solved)
each_within [] = tt
each_within (s ∷ solved) = ((omega arith, s.inside), each_within solved)

without_within : (r : Row) (rs : List Row) → Each (λ q. Within 256 q.dependent) rs → Each (λ q. Within 256 q.dependent) (map (without r) rs)
without_within r [] h = tt
without_within r (q ∷ rs) h = (h.0, without_within r rs h.1)

-- the highest switch of a set
highest_is : (set : List Bool) (d : ℕ) → Some d ≡ highest set → IsHighest set d
highest_is set d h = subst (HighestRight set) (sym h) (highest_right set)

-- what is left of an equation, with its highest switch, is a new row
row_joins : (rs : List Row) (e x : Equation) (d : ℕ) → ReducedRows rs → x ≡ cleared rs e → Some d ≡ highest x.members → ReducedRows (joined rs (row d x))
row_joins rs e x d red is h = joined_reduced rs (row d x) (highest_is x.members d h) (subst (λ y. Lacks rs y.members) (sym is) (all_cleared rs e red)) red

-- and finds room
pub room_left : (es : List Equation) (solved : List Solved) (e x : Equation) (i : ℕ) → reduce es ≡ Some (map solved_row solved) → x ≡ cleared (map solved_row solved) e → Some (suc i) ≡ highest x.members → i < 256 → length solved < 256
room_left es solved e x i made left top below =
    let rs = map solved_row solved in
    let r = row (suc i) x in
    let red = row_joins rs e x (suc i) (subst ReducedIf made (reduce_reduced (Some []) es tt)) left top in
    let within = each_append (λ q. Within 256 q.dependent) (map (without r) rs) (r ∷ []) (without_within r rs (each_within solved)) ((omega arith, below), tt) in
    omega (arith, few_rows 256 (joined rs r) red within, length_push (map (without r) rs) r, length-map rs (without r), length-map solved solved_row)
