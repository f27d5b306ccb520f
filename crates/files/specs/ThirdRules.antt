-- Lemmas for the law of the third-year format: its rule records.
use Rattle.std.specs.Prelude.{ℕ, ◌+◌, ◌*◌, ◌≤◌, Bool, true, false, cond, List, length, drop, Some, None, Option, Result, slice_index}
use Rattle.std.proofs.Common.{arith, length-drop}
use Rattle.std.proofs.lemmas.Bool.{leb-true}
use Rattle.std.proofs.lemmas.List.FromFn.{length-map-range_with_len}
use Rattle.rules.specs.declared.kinds.Kind.{Kind}
use Rattle.rules.specs.declared.kinds.Kind.TheVariants.{Clause, Parity}
use Rattle.rules.specs.declared.kinds.Side.{Side}
use Rattle.rules.specs.declared.kinds.Side.TheVariants.{Even}
use Rattle.rules.specs.declared.faults.Cause.TheVariants.{Form, Width}
use Rattle.files.specs.declared.records.Flaw.{Flaw}
use Rattle.files.specs.Numbers.{entry, entries_in}
use Rattle.files.specs.Formats.{RuleRead, Sound, SoundAt, flaw, clause_marked, parity_marked}
use Rattle.files.specs.ThirdFormat.{sized, listed, with_side, third_clause, third_parity, with_width, third_rule}
use Rattle.files.specs.Sounds.{sound_demand, sound_framed}

sound_listed : (n l : ℕ) (k : Kind) (first w : ℕ) (es : List ℕ) → first + 2 * w ≤ l → Sound n l (listed k n first w es)
sound_listed n l k first w es h =
    let long = length-map-range_with_len (entry es) 0 w in
    sound_framed n l k (entries_in w es) first (first + 2 * w) h (omega arith)

module _ (n w : ℕ) (bs : List ℕ) (long : 3 ≤ length bs) where
  sound_sized : (k : Kind) (asked : ℕ) (later : Result RuleRead Flaw) → (3 + asked ≤ length bs → Sound n (length bs) later) → Sound n (length bs) (sized k w asked (drop 3 bs) later)
  sound_sized k asked later h =
      sound_demand n (length bs) _ (flaw Width 2) _ (omega arith)
      (λ fits. sound_demand n (length bs) _ (flaw Form 0) _ (omega arith)
      (λ present. let all = leb-true asked (length (drop 3 bs)) present in let rest = length-drop 3 bs in h (omega arith)))

  sound_sided : (o : Option Side) (es : List ℕ) → 4 + 2 * w ≤ length bs → Sound n (length bs) (with_side o n w es)
  sound_sided None es h = omega arith
  sound_sided (Some side) es h = sound_listed n _ (Parity side) 4 w es h

  sound_clause : Sound n (length bs) (third_clause n w (drop 3 bs))
  sound_clause = sound_sized Clause (2 * w) _ (λ h. sound_listed n _ Clause 3 w _ h)

  sound_parity : Sound n (length bs) (third_parity n w (drop 3 bs))
  sound_parity = sound_sized (Parity Even) (1 + 2 * w) _ (λ h. sound_sided _ _ (omega arith))

pub third_sound : (n : ℕ) (bs : List ℕ) → SoundAt n (length bs) (third_rule n bs)
third_sound n bs = by (clause_marked bs) (parity_marked bs)
  where
    by : (a b : Bool) → SoundAt n (length bs) (cond a (Some (with_width (third_clause n) bs)) (cond {A = Option (Result RuleRead Flaw)} b (Some (with_width (third_parity n) bs)) None))
    by true b = sound_demand n (length bs) _ (flaw Form 0) _ (omega arith) (λ h. sound_clause n (slice_index bs 2) bs (leb-true 3 _ h))
    by false true = sound_demand n (length bs) _ (flaw Form 0) _ (omega arith) (λ h. sound_parity n (slice_index bs 2) bs (leb-true 3 _ h))
    by false false = tt
