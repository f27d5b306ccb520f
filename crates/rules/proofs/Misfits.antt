-- What is found at one entry.
use Rattle.std.proofs.Common.{◌≡◌, ℕ, ◌-◌, ◌≤◌, true, false, nat_eq, length, take, List, get_or, ℤ, pos, Some, None, sym, ap, ◌∙◌}
use Rattle.std.proofs.Math.Nat.{sub-zero}
use Rattle.std.specs.List.{list_any}
use Rattle.std.proofs.lemmas.Bool.{cond-true, cond-false, not_from_true, not_from_false}
use Rattle.rules.specs.declared.literals.Literal.{Literal}
use Rattle.rules.specs.declared.kinds.Kind.{Kind}
use Rattle.rules.specs.declared.faults.Cause.TheVariants.{Entry, Repeat}
use Rattle.rules.specs.Faults.{misfit}
use Rattle.rules.specs.Entries.{literal, named_switch, literal_fits, named, entry_misfit}
use Rattle.rules.proofs.Firsts.{some_below-take}

module _ (k : Kind) (n : ℕ) (es : List ℤ) (i : ℕ) (l : Literal) (this : l ≡ literal (get_or es i (pos 0))) where
  pub entry_unfit : literal_fits k n l ≡ false → entry_misfit k n es i ≡ Some (misfit Entry i)
  entry_unfit h = cond-false _ _ _ (ap (literal_fits k n) (sym this) ∙ h)

  pub entry_repeated : literal_fits k n l ≡ true → named es l.switch i ≡ true → entry_misfit k n es i ≡ Some (misfit Repeat i)
  entry_repeated h r =
      cond-true _ _ _ (ap (literal_fits k n) (sym this) ∙ h)
      ∙ cond-false _ _ _ (not_from_true _ (ap (λ (x : Literal). named es x.switch i) (sym this) ∙ r))

  pub entry_fine : literal_fits k n l ≡ true → named es l.switch i ≡ false → entry_misfit k n es i ≡ None
  entry_fine h r =
      cond-true _ _ _ (ap (literal_fits k n) (sym this) ∙ h)
      ∙ cond-true _ _ _ (not_from_false _ (ap (λ (x : Literal). named es x.switch i) (sym this) ∙ r))

-- an entry of the first i names the switch
pub named-take : (es : List ℤ) (v i : ℕ) → i ≤ length es → list_any (λ e. nat_eq (named_switch e) v) (take (i - 0) es) ≡ named es v i
named-take es v i h =
    ap (λ k. list_any (λ e. nat_eq (named_switch e) v) (take k es)) (sub-zero i)
    ∙ some_below-take (λ e. nat_eq (named_switch e) v) es (pos 0) i h
