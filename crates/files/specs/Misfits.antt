-- Lemmas for the laws of the formats: what is wrong with a rule is wrong at one of its entries.
use Rattle.std.specs.Prelude.{◌≡◌, ℕ, zero, suc, ◌<◌, ◌≤◌, Bool, true, false, not, List, length, ℤ, pos, Some, None, Err, Option, slice_index_or, refl}
use Rattle.std.proofs.Common.{ap, ◌∙◌, arith}
use Rattle.std.specs.Option.{option_or}
use Rattle.rules.specs.declared.kinds.Kind.{Kind}
use Rattle.rules.specs.declared.faults.Cause.TheVariants.{Width, Entry, Repeat}
use Rattle.rules.specs.declared.faults.Misfit.{Misfit}
use Rattle.rules.specs.First.{first_of, unless, verdict}
use Rattle.rules.specs.Faults.{misfit}
use Rattle.rules.specs.Lawful.{width_fits}
use Rattle.rules.specs.Entries.{literal, named_switch, literal_fits, named, entry_misfit, entries_misfit, rule_of, built}

entry_index : (k : Kind) (n : ℕ) (es : List ℤ) (i : ℕ) (m : Misfit) → entry_misfit k n es i ≡ Some m → i ≡ m.index
entry_index k n es i m h = by (literal_fits k n (literal (slice_index_or es i (pos 0)))) (not (named es (named_switch (slice_index_or es i (pos 0))) i)) h
  where
    by : (a b : Bool) → unless a (misfit Entry i) (unless b (misfit Repeat i) None) ≡ Some m → i ≡ m.index
    by true true h = absurd (cc)
    by true false h = let e : misfit Repeat i ≡ m = cc in ap (λ (x : Misfit). x.index) e
    by false b h = let e : misfit Entry i ≡ m = cc in ap (λ (x : Misfit). x.index) e

first_index : (k : Kind) (n : ℕ) (es : List ℤ) (m : Misfit) (j : ℕ) → first_of (entry_misfit k n es) j ≡ Some m → m.index < j
unfolding first_of
first_index k n es m zero h = absurd (cc)
first_index k n es m (suc j) h = by (first_index k n es m j) (first_of (entry_misfit k n es) j) refl h
  where
    by : (first_of (entry_misfit k n es) j ≡ Some m → m.index < j) → (o : Option Misfit) → first_of (entry_misfit k n es) j ≡ o → option_or o (entry_misfit k n es j) ≡ Some m → m.index < suc j
    by before None e h = let at = entry_index k n es j m h in omega arith
    by before (Some x) e h = let at = before (e ∙ h) in omega arith

pub misfit_within : (k : Kind) (n : ℕ) (es : List ℤ) (m : Misfit) → Err m ≡ built k n es → m.index ≤ length es
misfit_within k n es m h = by (width_fits k (length es)) (entries_misfit k n es) refl h
  where
    by : (fits : Bool) (o : Option Misfit) → entries_misfit k n es ≡ o → Err m ≡ verdict (unless fits (misfit Width 0) o) (rule_of k es) → m.index ≤ length es
    by false o e h = let same : misfit Width 0 ≡ m = cc in let at = ap (λ (x : Misfit). x.index) same in omega arith
    by true None e h = absurd (cc)
    by true (Some x) e h =
        let same : x ≡ m = cc in
        let at = first_index k n es x (length es) e in
        let index = ap (λ (x : Misfit). x.index) same in
        omega arith
