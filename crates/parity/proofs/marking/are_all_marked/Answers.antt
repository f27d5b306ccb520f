use Rattle.std.proofs.Common.{◌≡◌, ℕ, ◌*◌, ◌%◌, ◌^◌, ◌<◌, ◌≤◌, Bool, true, false, not, ◌||◌, length, get_or, MatchBool, Decides, sym, refl, ap, ◌∙◌, true≢false, rules, tests, arith, pow_mono}
use Rattle.std.specs.List.{range_with_len, AllWithin, HoldsAt}
use Rattle.std.proofs.lemmas.List.FromFn.{length-range_with_len, get_or-range_with_len}
use Rattle.std.proofs.lemmas.Iterator.{serves_from_Range, cases_from_all, YieldsList-from_range}
use Rattle.parity.specs.Places.{off_side_at}
use Rattle.parity.proofs.marking.are_all_marked.Goals as goal

pub all-requires-clause-callable : goal.all-requires-clause-callable
all-requires-clause-callable c =
    let few : 2 ^ c.args.width ≤ 2 ^ 5 = pow_mono c.requires in
    serves_from_Range (λ x q k. search rules) (λ x a b κs p n e r l. omega (arith, few))

-- each place that has to be marked is marked
all_decided : (r : Bool) (n : ℕ) (marked off : ℕ → Bool) → MatchBool r (AllWithin (λ k. (marked k || not (off k)) ≡ true) (range_with_len 0 n) 0 (length (range_with_len 0 n))) ((i : ℕ) × (i < length (range_with_len 0 n)) × HoldsAt (λ k. (marked k || not (off k)) ≡ false) (range_with_len 0 n) i) → Decides r ((k : ℕ) → k < n → off k ≡ true → marked k ≡ true)
all_decided true n marked off h = (λ _ k l e. by (marked k) (off k) e (ap (λ j. marked j || not (off j)) (sym (get_or-range_with_len 0 n k 0 l ∙ omega arith)) ∙ h k 0 (omega arith) (omega (arith, length-range_with_len 0 n))), λ _. refl)
  where
    by : (a b : Bool) → b ≡ true → (a || not b) ≡ true → a ≡ true
    by a b e f = grind arith
all_decided false n marked off h = (
  λ e. absurd (true≢false (sym e)),
  λ all.
      let l = length-range_with_len 0 n in
      let here : h.0 < n = omega (arith, h.1) in
      let fails = ap (λ j. marked j || not (off j)) (sym (get_or-range_with_len 0 n h.0 0 here ∙ omega arith)) ∙ h.2 0 in
      absurd (by (marked h.0) (off h.0) (all h.0 here) fails),
)
  where
    by : (a b : Bool) → (b ≡ true → a ≡ true) → (a || not b) ≡ false → ⊥
    by true b f g = true≢false g
    by false true f g = true≢false (sym (f refl))
    by false false f g = true≢false g

pub returns : goal.returns
returns c =
    let marks = c.args.marks.now in
    let side = c.args.side in
    let few : 2 ^ c.args.width ≤ 2 ^ 5 = pow_mono c.requires in
    let road = YieldsList-from_range 0 ((1 * 2 ^ c.args.width) % 18446744073709551616) (2 ^ c.args.width) refl (omega arith) in
    let checked = cases_from_all _ _ _ (λ k. (get_or marks k false || not (off_side_at side k)) ≡ true) (λ k. (get_or marks k false || not (off_side_at side k)) ≡ false) c.all.ensures.ran road (λ x q k. search (rules, tests)) (λ x q k. search (rules, tests)) in
    all_decided c.all.result (2 ^ c.args.width) (λ k. get_or marks k false) (off_side_at side) checked
