use Rattle.std.proofs.Common.{◌≡◌, ℕ, ◌+◌, Bool, true, false, cond, not, List, [], ◌∷◌, ℤ, Some, Option, drop, sym, refl, ap, ◌∙◌, add_assoc, add-zero, rules, tests}
use Rattle.std.specs.List.{position, position_from}
use Rattle.std.specs.Option.{option_map}
use Rattle.std.proofs.lemmas.List.{take_rest}
use Rattle.std.proofs.lemmas.Iterator.{YieldsList-from_slice}
use Rattle.std.proofs.lemmas.Iterator.Search.{position_from_yields_List}
use Rattle.std.proofs.lemmas.Iterator.Adapters.{position_from-zero}
use Rattle.files.specs.FirstFormat.{is_empty, filled_from}
use Rattle.files.proofs.first_year.find_filled.Goals as goal

abbrev is_filled : ℤ → Bool
is_filled e = not (is_empty e)

from_shifted : (i j : ℕ) (es : List ℤ) → filled_from (i + j) es ≡ option_map (λ k. i + k) (position_from is_filled j es)
from_shifted i j [] = refl
from_shifted i j (e ∷ es) = by (ap (λ n. filled_from n es) (add_assoc i j 1) ∙ from_shifted i (j + 1) es) (is_empty e)
  where
    by : filled_from (i + j + 1) es ≡ option_map (λ k. i + k) (position_from is_filled (j + 1) es) → (b : Bool) → cond b (filled_from (i + j + 1) es) (Some (i + j)) ≡ option_map (λ k. i + k) (cond (not b) (Some j) (position_from is_filled (j + 1) es))
    by later true = later
    by later false = refl

found_from : (i : ℕ) (es : List ℤ) (o : Option ℕ) → o ≡ position is_filled es → option_map (λ k. i + k) o ≡ filled_from i es
found_from i es o is =
    ap (option_map (λ k. i + k)) (is ∙ position_from-zero is_filled es) ∙ sym (from_shifted i 0 es) ∙ ap (λ n. filled_from n es) (add-zero i)

pub returns-in_err-filled-clause-first : goal.returns-in_err-filled-clause-first
returns-in_err-filled-clause-first c =
    let es = drop c.args.from c.args.slots.now in
    let found : c.position.result ≡ position is_filled es = position_from_yields_List is_filled _ _ _ c.position.ensures.ran (YieldsList-from_slice es (c.iter.ensures.rest ∙ take_rest c.args.slots.now c.args.from)) (λ x b q k. search (rules, tests)) in
    c.from_residual.ensures ∙ ap (option_map (λ k. c.args.from + k)) (sym (c.in_err-filled.was)) ∙ found_from c.args.from es _ found

pub returns-clause-first : goal.returns-clause-first
returns-clause-first c =
    let es = drop c.args.from c.args.slots.now in
    let found : c.position.result ≡ position is_filled es = position_from_yields_List is_filled _ _ _ c.position.ensures.ran (YieldsList-from_slice es (c.iter.ensures.rest ∙ take_rest c.args.slots.now c.args.from)) (λ x b q k. search (rules, tests)) in
    ap (option_map (λ k. c.args.from + k)) (sym (c.in_ok-filled.was)) ∙ found_from c.args.from es _ found
