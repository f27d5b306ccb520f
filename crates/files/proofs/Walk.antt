-- The walk over the records of a file.
use Rattle.std.proofs.Common.{◌≡◌, ℕ, List, [], ◌∷◌, ◌++◌, Some, None, Ok, Err, Option, Result, sym, refl, ap, ◌∙◌}
use Rattle.std.proofs.lemmas.List.{append-nil, append_assoc}
use Rattle.rules.specs.declared.faults.Fault.{Fault}
use Rattle.rules.specs.declared.rule.Rule.{Rule}
use Rattle.rules.specs.First.{on_ok}
use Rattle.rules.specs.Constraints.{Constraint}
use Rattle.rules.specs.Views.{constraint}
use Rattle.sheets.specs.Meaning.{Meaning}
use Rattle.sheets.specs.Tables.{over}
use Rattle.files.specs.declared.sequence.Records.{Records}
use Rattle.files.specs.Formats.{Format}
use Rattle.files.specs.Reads.{left, with_next}

-- of a file with the meaning m, the rules `before` were read, and r is left
pub record Underway (f : Format) (m : Result Meaning Fault) (r : Records) (before : List Constraint) : Type 0 where
  pub whole : m ≡ on_ok (λ rules. over r.n (before ++ rules)) (left f r)

joined : (n : ℕ) (before : List Constraint) (c : Constraint) (x : Result (List Constraint) Fault) → on_ok (λ rules. over n (before ++ rules)) (on_ok (λ rules. c ∷ rules) x) ≡ on_ok (λ rules. over n ((before ++ c ∷ []) ++ rules)) x
joined n before c (Ok rules) = ap (λ rs. Ok (over n rs)) (sym (append_assoc before (c ∷ []) rules))
joined n before c (Err e) = refl

module _ {f : Format} {m : Result Meaning Fault} {r : Records} {before : List Constraint} (far : Underway f m r before) (later : Result (List Constraint) Fault) where
  read_next : (o : Result (Option Rule) Fault) → left f r ≡ with_next o later → m ≡ on_ok (λ rules. over r.n (before ++ rules)) (with_next o later)
  read_next o h = far.whole ∙ ap (on_ok (λ rules. over r.n (before ++ rules))) h

  pub ended : (o : Option Rule) → o ≡ None → left f r ≡ with_next (Ok o) later → m ≡ Ok (over r.n before)
  ended o is h =
      read_next (Ok o) h ∙ ap (λ x. on_ok (λ rules. over r.n (before ++ rules)) (with_next (Ok x) later)) is ∙ ap (λ rules. Ok (over r.n rules)) (append-nil before)

pub onward : {f : Format} {m : Result Meaning Fault} {r : Records} {before : List Constraint} → Underway f m r before → (s : Records) (o : Option Rule) (rule : Rule) → o ≡ Some rule → s.n ≡ r.n → left f r ≡ with_next (Ok o) (left f s) → Underway f m s (before ++ constraint rule ∷ [])
onward {f} {m} {r} {before} far s o rule is same h =
    record {
      whole =
          read_next far (left f s) (Ok o) h ∙ ap (λ x. on_ok (λ rules. over r.n (before ++ rules)) (with_next (Ok x) (left f s))) is
          ∙ joined r.n before (constraint rule) (left f s) ∙ ap (λ n. on_ok (λ rules. over n ((before ++ constraint rule ∷ []) ++ rules)) (left f s)) (sym same);
    }
