-- What a reduction tells is right.
use Rattle.std.proofs.Common.{◌≡◌, ℕ, ◌≤◌, true, List, [], ◌∷◌, map, length, Some, Ok, Err, is_ok, Option, Result, true≢false, sym, refl, ap, ◌∙◌, arith}
use Rattle.std.proofs.lemmas.List.{length-map}
use Rattle.std.proofs.lemmas.Bool.{and_parts, and_from}
use Rattle.rules.specs.First.{every}
use Rattle.rules.specs.Constraints.{Constraint, kind, switches}
use Rattle.rules.specs.Lawful.{inside, different, width_fits, lawful}
use Rattle.parity_theory.specs.Recovering.{parities}
use Rattle.parity_theory.specs.Reducing.{reduce, as_rule, as_rules, rows, left_free}
use Rattle.parity_theory.specs.Claims.{LawfulRules}
use Rattle.parity_theory.proofs.Wider.{inside_wider, wider}
use Rattle.parity_theory.proofs.Results.{reduction_right, freedom_right}
use Rattle.parity.specs.declared.equations.Solved.{Solved}
use Rattle.parity.specs.Views.{solved_row, unless_contradiction}
use Rattle.parity.specs.Reductions.{Right}
use Rattle.parity.proofs.Room.{rows_few}

-- ---- rules that are lawful over n switches are lawful over more

module _ (n m : ℕ) (l : n ≤ m) where
  pub lawful_wider : (rules : List Constraint) → LawfulRules n rules → LawfulRules m rules
  lawful_wider [] h = refl
  lawful_wider (r ∷ rules) h =
      let p = and_parts (lawful n r) (every (lawful n) rules) h in
      let q = and_parts (width_fits (kind r) (length (switches r))) _ p.0 in
      let s = and_parts (every (inside n) (switches r)) (different (switches r)) q.1 in
      and_from _ _ (and_from _ _ q.0 (and_from _ _ (inside_wider n m l (switches r) s.0) s.1)) (lawful_wider rules p.1)

module _ (n : ℕ) (few : n ≤ 256) (rules : List Constraint) (law : LawfulRules n rules) {T E : Type 0} where
  pub told_rows : (o : Result T E) (solved : List Solved) (out : List Constraint) → unless_contradiction o (map solved_row solved) ≡ reduce (parities 256 rules) → (is_ok o ≡ true → out ≡ map as_rule (map solved_row solved)) → unless_contradiction o out ≡ rows n rules
  told_rows (Err x) solved out h e = ap as_rules h ∙ wider n 256 few rules law
  told_rows (Ok x) solved out h e = ap Some (e refl) ∙ ap as_rules h ∙ wider n 256 few rules law

  pub told_few : (o : Result T E) (solved : List Solved) → unless_contradiction o (map solved_row solved) ≡ reduce (parities 256 rules) → is_ok o ≡ true → length solved ≤ n
  told_few (Err x) solved h e = absurd (true≢false (sym e))
  told_few (Ok x) solved h e =
      let out = map as_rule (map solved_row solved) in
      let all = rows_few n rules out (sym (told_rows (Ok x) solved out h (λ _. refl))) in
      omega (arith, all, length-map (map solved_row solved) as_rule, length-map solved solved_row)

module _ (n : ℕ) (rules : List Constraint) (law : LawfulRules n rules) where
  pub told_right : (told : Option (List Constraint)) → told ≡ rows n rules → Right n rules told
  told_right told h = record {
    reduced = λ rs e. reduction_right.reduced n rules rs law (sym h ∙ e);
    same_settings = λ rs e. reduction_right.same_settings n rules rs law (sym h ∙ e);
    contradiction = (λ e. (reduction_right.contradiction n rules law).0 (sym h ∙ e), λ k. h ∙ (reduction_right.contradiction n rules law).1 k);
    free_switches = λ rs e. ap (left_free n) h ∙ freedom_right.free_switches n rules rs law (sym h ∙ e);
    counts = λ f e. freedom_right.counts n f rules law (sym (ap (left_free n) h) ∙ e);
  }
