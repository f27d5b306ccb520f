-- What has one proof at most, so that it can be taken out of a ghost field.
use Rattle.std.proofs.Common.{◌≡◌, ℕ, ◌<◌, ◌≤◌, Bool, true, false, ◌⊎◌, List, [], ◌∷◌, Some, None, Option, refl, ap, inl, inr, arith}
use mathlib.Core.Bool.{Bool-set, Bool-discrete}
use mathlib.Core.Logic.{∥∥₁_prop}
use mathlib.Core.HLevel.{Discrete, Π_prop, Π_set, ×_prop, Unit-prop, hedberg, is_prop→PathP}
use native.Mathlib.Bridge.{le_prop}
use native.Mathlib.Decide.{ℕ_discrete}
use Rattle.std.proofs.lemmas.Bool.{cases_lt}
use Rattle.rules.specs.Settings.{Setting, Within, Earlier, setting}
use Rattle.rules.specs.Constraints.{Constraint, kept, Each, Earliest}
use Rattle.search_theory.specs.Parts.{Part}
use Rattle.search_theory.specs.Theorems.{Found}
use Rattle.search.specs.declared.state.State.{State}
use Rattle.search.specs.States.{Standing}

pub within_prop : (n v : ℕ) → IsProp (Within n v)
within_prop n v = ×_prop le_prop le_prop

pub each_prop : {X : Type 0} (P : X → Type 0) → ((x : X) → IsProp (P x)) → (xs : List X) → IsProp (Each P xs)
each_prop P h [] = Unit-prop
each_prop P h (x ∷ xs) = ×_prop (h x) (each_prop P h xs)

value_discrete : Discrete (Option Bool)
value_discrete None None = yes refl
value_discrete None (Some y) = no (λ e. let z : ◌≡◌ {A = ℕ} 0 1 = cc in omega arith)
value_discrete (Some x) None = no (λ e. let z : ◌≡◌ {A = ℕ} 0 1 = cc in omega arith)
value_discrete (Some x) (Some y) = by (Bool-discrete x y)
  where
    by : Dec (x ≡ y) → Dec (Some x ≡ Some y)
    by (yes e) = yes (ap Some e)
    by (no f) = no (λ e. f (cc))

pub value_set : IsSet (Option Bool)
value_set = hedberg value_discrete

part_set : IsSet Part
part_set = Π_set (λ v. value_set)

pub standing_prop : (n : ℕ) (rules : List Constraint) (s : State) → IsProp (Standing n rules s)
standing_prop n rules s x y = λ i. record {
  reached = ∥∥₁_prop x.reached y.reached i;
  level = hedberg ℕ_discrete _ _ x.level y.level i;
  below = Π_prop (λ j. Π_prop (λ h. part_set _ _)) x.below y.below i;
  top = part_set _ _ x.top y.top i;
  ended = Bool-set _ _ x.ended y.ended i;
  live = Π_prop (λ h. part_set _ _) x.live y.live i;
}

-- two settings differ first at one switch
module _ (n : ℕ) (s t : Setting) where
  not_later : (x y : Earlier n s t) → x.at < y.at → ⊥
  not_later x y l =
      let same = y.same x.at x.within.0 l in
      let off = x.off in
      let on = x.on in
      let z : ◌≡◌ {A = ℕ} 0 1 = cc in omega arith

  at_same : (x y : Earlier n s t) → x.at ≡ y.at
  at_same x y = by (cases_lt x.at y.at) (cases_lt y.at x.at)
    where
      by : (x.at < y.at) ⊎ (y.at ≤ x.at) → (y.at < x.at) ⊎ (x.at ≤ y.at) → x.at ≡ y.at
      by (inl l) o = absurd (not_later x y l)
      by (inr l) (inl m) = absurd (not_later y x m)
      by (inr l) (inr m) = omega arith

  earlier_prop : IsProp (Earlier n s t)
  earlier_prop x y =
      let e = at_same x y in
      λ i. record {
        at = e i;
        within = is_prop→PathP (λ j. Within n (e j)) (λ j. within_prop n (e j)) x.within y.within i;
        same = is_prop→PathP (λ j. (v : ℕ) → 1 ≤ v → v < e j → s v ≡ t v) (λ j. Π_prop (λ v. Π_prop (λ a. Π_prop (λ b. Bool-set _ _)))) x.same y.same i;
        off = is_prop→PathP (λ j. s (e j) ≡ false) (λ j. Bool-set _ _) x.off y.off i;
        on = is_prop→PathP (λ j. t (e j) ≡ true) (λ j. Bool-set _ _) x.on y.on i;
      }

  apart : ((v : ℕ) → Within n v → s v ≡ t v) → Earlier n s t → ⊥
  apart f x =
      let same = f x.at x.within in
      let off = x.off in
      let on = x.on in
      let z : ◌≡◌ {A = ℕ} 0 1 = cc in omega arith

  same_or_earlier_prop : IsProp (((v : ℕ) → Within n v → s v ≡ t v) ⊎ Earlier n s t)
  same_or_earlier_prop (inl f) (inl g) = ap inl (Π_prop (λ v. Π_prop (λ w. Bool-set _ _)) f g)
  same_or_earlier_prop (inl f) (inr y) = absurd (apart f y)
  same_or_earlier_prop (inr x) (inl g) = absurd (apart g x)
  same_or_earlier_prop (inr x) (inr y) = ap inr (earlier_prop x y)

earliest_prop : (n : ℕ) (rules : List Constraint) (s : Setting) → IsProp (Earliest n rules s)
earliest_prop n rules s x y = λ i. record {
  keeps = each_prop (λ r. kept s r ≡ true) (λ r. Bool-set _ _) rules x.keeps y.keeps i;
  first = Π_prop (λ t. Π_prop (λ k. same_or_earlier_prop n s t)) x.first y.first i;
}

pub found_prop : (n : ℕ) (rules : List Constraint) (p : Part) (s : List Bool) → IsProp (Found n rules p s)
found_prop n rules p s x y = λ i. record {
  long = hedberg ℕ_discrete _ _ x.long y.long i;
  all_set = Π_prop (λ v. Π_prop (λ w. value_set _ _)) x.all_set y.all_set i;
  earliest = earliest_prop n rules (setting s) x.earliest y.earliest i;
}
