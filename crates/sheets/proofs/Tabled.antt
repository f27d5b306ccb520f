-- The walk over the drafts of a table.
use Rattle.std.proofs.Common.{◌≡◌, ℕ, ◌+◌, ◌<◌, List, [], ◌∷◌, ◌++◌, map, length, get_or, drop, Ok, Err, vec_items, Result, sym, refl, ap, ◌∙◌}
use Rattle.std.proofs.lemmas.List.{at_drop_more, append_assoc}
use Rattle.rules.specs.declared.faults.Layer.TheVariants as layer
use Rattle.rules.specs.declared.faults.Fault.{Fault}
use Rattle.rules.specs.First.{on_ok}
use Rattle.rules.specs.Constraints.{Constraint}
use Rattle.rules.specs.Checks.{checked}
use Rattle.sheets.specs.declared.raw.RawRule.{RawRule}
use Rattle.sheets.specs.Tables.{then, table_rules}
use Rattle.sheets.specs.Views.{draft}

-- the rules before those of a result
abbrev pub prefixed : List Constraint → Result (List Constraint) Fault → Result (List Constraint) Fault
prefixed rs (Ok more) = Ok (rs ++ more)
prefixed rs (Err f) = Err f

abbrev pub checked_only : Result (List Constraint) Fault → Result (Unit {0}) Fault
checked_only = on_ok (λ _. tt)

pub prefixed_push : (rs : List Constraint) (r : Constraint) (x : Result (List Constraint) Fault) → prefixed (rs ++ r ∷ []) x ≡ prefixed rs (prefixed (r ∷ []) x)
prefixed_push rs r (Ok more) = ap Ok (append_assoc rs (r ∷ []) more)
prefixed_push rs r (Err f) = refl

-- the draft at place i
module _ (n : ℕ) (raws : List RawRule) (i : ℕ) (raw : RawRule) (lt : i < length raws) (is : raw ≡ get_or raws i raw) where
  ahead : Result (List Constraint) Fault
  ahead = table_rules n (i + 1) (map draft (drop (i + 1) raws))

  told : Result Constraint Fault
  told = checked layer.Table i n raw.kind (vec_items raw.entries)

  here : table_rules n i (map draft (drop i raws)) ≡ then told (λ r. then ahead (λ rs. Ok (r ∷ rs)))
  unfolding ahead told
  here =
      at_drop_more (λ rs. table_rules n i (map draft rs)) raws i raw lt
      ∙ ap (λ x. table_rules n i (draft x ∷ map draft (drop (i + 1) raws))) (sym is)

  pub passes : (r : Constraint) → Ok r ≡ checked layer.Table i n raw.kind (vec_items raw.entries) → table_rules n i (map draft (drop i raws)) ≡ prefixed (r ∷ []) (table_rules n (i + 1) (map draft (drop (i + 1) raws)))
  unfolding ahead told
  passes r h = here ∙ ap (λ c. then c (λ r. then ahead (λ rs. Ok (r ∷ rs)))) (sym h) ∙ by ahead
    where
      by : (x : Result (List Constraint) Fault) → then x (λ rs. Ok (r ∷ rs)) ≡ prefixed (r ∷ []) x
      by (Ok rs) = refl
      by (Err f) = refl
