-- The call at the front of some bytes.
use Rattle.std.proofs.Common.{◌≡◌, ℕ, ◌-◌, ◌≤◌, List, length, get_or, take, drop, Option, Result, sym, ap, ◌∙◌, subst}
use Rattle.std.proofs.lemmas.List.{take_rest}
use Rattle.std.proofs.lemmas.Bool.{cond-true, le-leb}
use Rattle.script.specs.declared.errors.ScriptError.{ScriptError}
use Rattle.script.specs.declared.reading.CallRecord.{CallRecord}
use Rattle.script.specs.Asked.{AskedAt, where_long, marked_call, call_at}
use Rattle.script.specs.Records.{RecordRead}

-- what is read behind the first k bytes
pub behind : (bs : List ℕ) (k : ℕ) (f : List ℕ → Option AskedAt) (r : Result CallRecord ScriptError) → k ≤ length bs → RecordRead (f (take (length bs - k) (drop k bs))) r → RecordRead (where_long k bs (f (drop k bs))) r
behind bs k f r long h = subst (λ o. RecordRead o r) (ap f (take_rest bs k) ∙ sym (cond-true _ _ _ (le-leb k (length bs) long))) h

-- what is read behind the mark m is the call
pub at_mark : (bs : List ℕ) (r : Result CallRecord ScriptError) (m : ℕ) → 1 ≤ length bs → get_or bs 0 0 ≡ m → RecordRead (marked_call m (take (length bs - 1) (drop 1 bs))) r → RecordRead (call_at bs) r
at_mark bs r m long is h = subst (λ k. RecordRead (where_long 1 bs (marked_call k (drop 1 bs))) r) (sym is) (behind bs 1 (marked_call m) r long h)
