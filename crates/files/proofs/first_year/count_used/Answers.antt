use Rattle.std.proofs.Common.{◌≡◌, ℕ, suc, ◌+◌, ◌≤◌, Bool, true, false, cond, not, ltb, List, [], ◌∷◌, ℤ, Some, None, length, take, sym, refl, ap, ◌∙◌, rules, tests, arith}
use Rattle.std.specs.List.{position, position_or_len}
use Rattle.std.specs.Option.{unwrap_or}
use Rattle.std.proofs.lemmas.Bool.{ltb-false}
use Rattle.std.proofs.lemmas.List.Sums.{prefix_len-le-length}
use Rattle.std.proofs.lemmas.Iterator.{YieldsList-from_slice}
use Rattle.std.proofs.lemmas.Iterator.Search.{position_from_yields_List}
use Rattle.files.specs.FirstFormat.{is_empty, used_slots}
use Rattle.files.proofs.first_year.count_used.Goals as goal

used_before : (es : List ℤ) → used_slots es ≡ take (position_or_len is_empty es) es
used_before [] = refl
used_before (e ∷ es) = by (used_before es) (is_empty e)
  where
    by : used_slots es ≡ take (position_or_len is_empty es) es → (b : Bool) → cond b [] (e ∷ used_slots es) ≡ take (cond (not b) (1 + position_or_len is_empty es) 0) (e ∷ es)
    by later true = refl
    by later false = let one : 1 + position_or_len is_empty es ≡ suc (position_or_len is_empty es) = omega arith in ap (λ l. e ∷ l) later ∙ ap (λ k. take k (e ∷ es)) (sym one)

first_or_all : (es : List ℤ) → unwrap_or (position is_empty es) (length es) ≡ position_or_len is_empty es
first_or_all es = by (position_or_len is_empty es) (length es) (prefix_len-le-length (λ e. not (is_empty e)) es) (ltb (position_or_len is_empty es) (length es)) refl
  where
    by : (p l : ℕ) → p ≤ l → (b : Bool) → ltb p l ≡ b → unwrap_or (cond b (Some p) None) l ≡ p
    by p l within true is = refl
    by p l within false is = let past = ltb-false p l is in omega arith

pub returns-clause-front : goal.returns-clause-front
returns-clause-front c =
    let es = c.args.slots.now in
    let found : c.position.result ≡ position is_empty es = position_from_yields_List is_empty _ _ _ c.position.ensures.ran (YieldsList-from_slice es cc) (λ x b q k. search (rules, tests)) in
    let at = c.unwrap_or.ensures ∙ ap (λ o. unwrap_or o (length es)) found ∙ first_or_all es in
    rw at (used_before es)
