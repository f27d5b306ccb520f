-- A clause read from its first literal to its last.
use Rattle.std.proofs.Common.{◌≡◌, ℕ, ◌+◌, ◌<◌, Bool, true, false, not, List, ◌∷◌, length, get_or, drop, is_some, Some, None, Option, sym, refl, ap, ◌∙◌, subst}
use mathlib.Core.Bool.{beq}
use Rattle.std.proofs.lemmas.List.{at_drop_more}
use Rattle.rules.specs.declared.literals.Literal.{Literal}
use Rattle.search_theory.specs.Parts.{Part}
use Rattle.search_theory.proofs.Scanning.{Read, read_broken, read_unset}

abbrev pub no_literal : Literal
no_literal = record { switch = 0; on = false }

unlike : (a b : Bool) → beq a b ≡ false → a ≡ not b
unlike true true e = absurd (cc)
unlike true false e = refl
unlike false true e = refl
unlike false false e = absurd (cc)

none_is : (o : Option Literal) → is_some o ≡ false → o ≡ None
none_is None e = refl
none_is (Some l) e = absurd (cc)

-- one literal of a clause is read
module _ (p : Part) (ls : List Literal) (i : ℕ) (h : i < length ls) where
  next_literal : (o : Option Literal) → Read p ls o (drop i ls) → Read p ls o (get_or ls i no_literal ∷ drop (i + 1) ls)
  next_literal o r = subst (λ x. Read p ls o x) (at_drop_more (λ x. x) ls i no_literal h) r

  pub literal_broken : (o o' : Option Literal) (x : Bool) → o' ≡ o → p (get_or ls i no_literal).switch ≡ Some x → beq x (get_or ls i no_literal).on ≡ false → Read p ls o (drop i ls) → Read p ls o' (drop (i + 1) ls)
  literal_broken o o' x same e not_kept r =
      subst (λ x. Read p ls x (drop (i + 1) ls)) (sym same)
      (read_broken p ls (get_or ls i no_literal) (drop (i + 1) ls) o (e ∙ ap Some (unlike x (get_or ls i no_literal).on not_kept)) (next_literal o r))

  pub literal_unset : (o o' : Option Literal) → is_some o ≡ false → o' ≡ Some (get_or ls i no_literal) → p (get_or ls i no_literal).switch ≡ None → Read p ls o (drop i ls) → Read p ls o' (drop (i + 1) ls)
  literal_unset o o' was same e r =
      subst (λ x. Read p ls x (drop (i + 1) ls)) (sym same)
      (read_unset p ls (get_or ls i no_literal) (drop (i + 1) ls) e (subst (λ x. Read p ls x (get_or ls i no_literal ∷ drop (i + 1) ls)) (none_is o was) (next_literal o r)))
