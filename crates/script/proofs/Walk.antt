-- The walk over the calls of a script.
use Rattle.std.proofs.Common.{◌≡◌, ℕ, suc, ◌+◌, ◌-◌, ◌<◌, ◌≤◌, true, false, eqb, List, [], ◌∷◌, ◌++◌, length, Some, None, Err, Option, sym, refl, ap, ◌∙◌, subst, arith}
use Rattle.std.specs.Option.{option_map}
use Rattle.std.proofs.lemmas.List.{append-nil, append_assoc}
use Rattle.std.proofs.lemmas.Bool.{cond-true, cond-false}
use Rattle.script.specs.declared.errors.ScriptError.{ScriptError}
use Rattle.script.specs.declared.errors.ScriptError.TheVariants.{Form, Memory}
use Rattle.script.specs.Records.{RecordRead, CallsRead}
use Rattle.script.specs.Asked.{Asked, AskedAt, call_at, call_then, calls_in}

-- of the n calls of bs, the first i were read, and rest is left
pub record Underway (n : ℕ) (bs : List ℕ) (i : ℕ) (rest : List ℕ) (before : List Asked) : Type 0 where
  pub whole : calls_in n bs ≡ option_map (λ later. before ++ later) (calls_in (n - i) rest)

same : (o : Option (List Asked)) → o ≡ option_map (λ later. [] ++ later) o
same None = refl
same (Some cs) = refl

pub start : (n : ℕ) (bs : List ℕ) → Underway n bs 0 bs []
start n bs = let all : n - 0 ≡ n = omega arith in record { whole = ap (λ k. calls_in k bs) (sym all) ∙ same (calls_in (n - 0) bs) }

joined : (before : List Asked) (c : Asked) (o : Option (List Asked)) → option_map (λ later. before ++ later) (option_map (λ cs. c ∷ cs) o) ≡ option_map (λ later. (before ++ c ∷ []) ++ later) o
joined before c None = refl
joined before c (Some cs) = ap Some (sym (append_assoc before (c ∷ []) cs))

one_more : (k : ℕ) (bs : List ℕ) → calls_in (suc k) bs ≡ call_then (calls_in k) (call_at bs)
unfolding calls_in
one_more k bs = refl

at_end : (bs : List ℕ) → eqb (length bs) 0 ≡ true → calls_in 0 bs ≡ Some []
unfolding calls_in
at_end bs h = cond-true _ _ _ h

past_end : (bs : List ℕ) → eqb (length bs) 0 ≡ false → calls_in 0 bs ≡ None
unfolding calls_in
past_end bs h = cond-false _ _ _ h

module _ {n : ℕ} {bs : List ℕ} {i : ℕ} {rest : List ℕ} {before : List Asked} (far : Underway n bs i rest before) where
  next : i < n → calls_in n bs ≡ option_map (λ later. before ++ later) (call_then (calls_in (n - (i + 1))) (call_at rest))
  next few =
      let more : n - i ≡ suc (n - (i + 1)) = omega arith in
      far.whole ∙ ap (λ k. option_map (λ later. before ++ later) (calls_in k rest)) more ∙ ap (option_map (λ later. before ++ later)) (one_more (n - (i + 1)) rest)

  pub onward : (c : AskedAt) → i < n → call_at rest ≡ Some c → Underway n bs (i + 1) c.rest (before ++ c.call ∷ [])
  onward c few is =
      record {
        whole =
            next few ∙ ap (λ o. option_map (λ later. before ++ later) (call_then (calls_in (n - (i + 1))) o)) is ∙ joined before c.call _;
      }

  broken : i < n → call_at rest ≡ None → calls_in n bs ≡ None
  broken few is = next few ∙ ap (λ o. option_map (λ later. before ++ later) (call_then (calls_in (n - (i + 1))) o)) is

  pub failed : (e : ScriptError) → i < n → RecordRead (call_at rest) (Err e) → CallsRead (calls_in n bs) (Err e)
  failed Form few is = broken few is
  failed Memory few is = tt

  last : n ≤ i → calls_in n bs ≡ option_map (λ later. before ++ later) (calls_in 0 rest)
  last all = let none : n - i ≡ 0 = omega arith in far.whole ∙ ap (λ k. option_map (λ later. before ++ later) (calls_in k rest)) none

  pub ended : n ≤ i → eqb (length rest) 0 ≡ true → calls_in n bs ≡ Some before
  ended all none = last all ∙ ap (option_map (λ later. before ++ later)) (at_end rest none) ∙ ap Some (append-nil before)

  pub overlong : n ≤ i → eqb (length rest) 0 ≡ false → calls_in n bs ≡ None
  overlong all some = last all ∙ ap (option_map (λ later. before ++ later)) (past_end rest some)

pub known_as : {n : ℕ} {bs : List ℕ} {i : ℕ} {rest : List ℕ} (before same : List Asked) → before ≡ same → Underway n bs i rest before → Underway n bs i rest same
known_as {n} {bs} {i} {rest} before same is far = subst (Underway n bs i rest) is far
