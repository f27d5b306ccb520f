-- The list of all settings of n switches.
use Rattle.std.proofs.Common.{◌≡◌, ℕ, zero, suc, ◌<◌, ◌≤◌, Bool, true, false, List, [], ◌∷◌, ◌++◌, map, length, filter, sym, refl, ap, ◌∙◌, ap₂, inl, inr, le_of_suc-le-suc, arith}
use Rattle.std.proofs.lemmas.Bool.{cond_both}
use Rattle.rules.specs.Settings.{Within, Earlier, setting}
use Rattle.rules.specs.Constraints.{Each, SomeOf}
use Rattle.parity_theory.specs.Writing.{off_then_on, settings}
use Rattle.parity_theory.specs.Counting.{Rising}
use Rattle.parity_theory.proofs.Lists.{each_append, each_map, each_weaker, each_of, each_passing}

-- s with one more switch, the highest
abbrev pub with_last : Bool → List Bool → List Bool
with_last b s = s ++ (b ∷ [])

abbrev pub both_ends : List (List Bool) → List (List Bool)
both_ends [] = []
both_ends (s ∷ ss) = with_last false s ∷ with_last true s ∷ both_ends ss

ends_front : (b : Bool) (ss : List (List Bool)) → map (λ s. b ∷ s) (both_ends ss) ≡ both_ends (map (λ s. b ∷ s) ss)
ends_front b [] = refl
ends_front b (s ∷ ss) = ap (λ l. with_last false (b ∷ s) ∷ with_last true (b ∷ s) ∷ l) (ends_front b ss)

ends_append : (ss ts : List (List Bool)) → both_ends (ss ++ ts) ≡ both_ends ss ++ both_ends ts
ends_append [] ts = refl
ends_append (s ∷ ss) ts = ap (λ l. with_last false s ∷ with_last true s ∷ l) (ends_append ss ts)

-- the settings of one switch more, by the highest switch
pub settings_by_last : (n : ℕ) → settings (suc n) ≡ both_ends (settings n)
settings_by_last zero = refl
settings_by_last (suc n) =
    let ss = settings n in
    ap off_then_on (settings_by_last n) ∙ ap₂ ◌++◌ (ends_front false ss) (ends_front true ss) ∙ sym (ends_append (map (λ s. false ∷ s) ss) (map (λ s. true ∷ s) ss))

-- each has n switches
pub settings_sized : (n : ℕ) → Each (λ s. length s ≡ n) (settings n)
settings_sized zero = (refl, tt)
settings_sized (suc n) = each_append _ (map (λ s. false ∷ s) (settings n)) (map (λ s. true ∷ s) (settings n)) (half false (settings_sized n)) (half true (settings_sized n))
  where
    half : (b : Bool) → Each (λ s. length s ≡ n) (settings n) → Each (λ s. length s ≡ suc n) (map (λ s. b ∷ s) (settings n))
    half b h = each_map (λ s. length s ≡ suc n) (λ s. b ∷ s) (settings n) (each_weaker (λ s. length s ≡ n) (λ s. length (b ∷ s) ≡ suc n) (λ s e. ap suc e) (settings n) h)

-- and each setting of n switches is there
module _ {X : Type 0} (P : X → Type 0) where
  some_left : (xs ys : List X) → SomeOf P xs → SomeOf P (xs ++ ys)
  some_left [] ys h = absurd h
  some_left (x ∷ xs) ys (inl h) = inl h
  some_left (x ∷ xs) ys (inr h) = inr (some_left xs ys h)

  some_right : (xs ys : List X) → SomeOf P ys → SomeOf P (xs ++ ys)
  some_right [] ys h = h
  some_right (x ∷ xs) ys h = inr (some_right xs ys h)

some_front : (b : Bool) (s : List Bool) (ss : List (List Bool)) → SomeOf (λ t. t ≡ s) ss → SomeOf (λ t. t ≡ (b ∷ s)) (map (λ t. b ∷ t) ss)
some_front b s [] h = h
some_front b s (t ∷ ss) (inl e) = inl (ap (λ u. b ∷ u) e)
some_front b s (t ∷ ss) (inr h) = inr (some_front b s ss h)

pub settings_all : (n : ℕ) (s : List Bool) → length s ≡ n → SomeOf (λ t. t ≡ s) (settings n)
settings_all zero [] h = inl refl
settings_all zero (b ∷ s) h = absurd (omega arith)
settings_all (suc n) [] h = absurd (omega arith)
settings_all (suc n) (false ∷ s) h = some_left _ (map (λ t. false ∷ t) (settings n)) _ (some_front false s (settings n) (settings_all n s (omega arith)))
settings_all (suc n) (true ∷ s) h = some_right _ (map (λ t. false ∷ t) (settings n)) _ (some_front true s (settings n) (settings_all n s (omega arith)))

-- the earlier come before the later
rising_append : (n : ℕ) (ss ts : List (List Bool)) → Rising n ss → Rising n ts → Each (λ s. Each (λ t. Earlier n (setting s) (setting t)) ts) ss → Rising n (ss ++ ts)
rising_append n [] ts h k a = k
rising_append n (s ∷ ss) ts h k a = (each_append _ ss ts h.0 a.0, rising_append n ss ts h.1 k a.1)

later_front : (n : ℕ) (b : Bool) (s t : List Bool) → Earlier n (setting s) (setting t) → Earlier (suc n) (setting (b ∷ s)) (setting (b ∷ t))
later_front n b s t e = by e.at e.within e.same e.off e.on
  where
    by : (v : ℕ) → Within n v → ((w : ℕ) → 1 ≤ w → w < v → setting s w ≡ setting t w) → setting s v ≡ false → setting t v ≡ true → Earlier (suc n) (setting (b ∷ s)) (setting (b ∷ t))
    by zero w same off on = absurd (omega arith)
    by (suc v) w same off on =
        record {
          at = suc (suc v);
          within = omega arith;
          same = elim [ zero ↦ λ l m. refl | suc zero ↦ λ l m. refl | suc (suc u) ↦ λ l m. same (suc u) (omega arith) (le_of_suc-le-suc m) ];
          off = off;
          on = on;
        }

off_first : (n : ℕ) (s t : List Bool) → Earlier (suc n) (setting (false ∷ s)) (setting (true ∷ t))
off_first n s t = record { at = 1; within = omega arith; same = λ v l m. absurd (omega arith); off = refl; on = refl }

rising_front : (n : ℕ) (b : Bool) (ss : List (List Bool)) → Rising n ss → Rising (suc n) (map (λ s. b ∷ s) ss)
rising_front n b [] h = tt
rising_front n b (s ∷ ss) h = (each_map _ (λ t. b ∷ t) ss (each_weaker (λ t. Earlier n (setting s) (setting t)) (λ t. Earlier (suc n) (setting (b ∷ s)) (setting (b ∷ t))) (later_front n b s) ss h.0), rising_front n b ss h.1)

pub settings_rising : (n : ℕ) → Rising n (settings n)
settings_rising zero = (tt, tt)
settings_rising (suc n) =
    let ss = settings n in
    rising_append (suc n) (map (λ s. false ∷ s) ss) (map (λ s. true ∷ s) ss) (rising_front n false ss (settings_rising n)) (rising_front n true ss (settings_rising n))
    (each_map _ (λ s. false ∷ s) ss (each_of _ (λ s. each_map _ (λ t. true ∷ t) ss (each_of _ (λ t. off_first n s t) ss)) ss))

-- what a test keeps of them
pub rising_kept : (n : ℕ) (p : List Bool → Bool) (ss : List (List Bool)) → Rising n ss → Rising n (filter p ss)
rising_kept n p [] h = tt
rising_kept n p (s ∷ ss) h =
    let ih = rising_kept n p ss h.1 in
    cond_both (p s) (s ∷ filter p ss) (filter p ss) (Rising n) (λ _. (each_passing (λ t. Earlier n (setting s) (setting t)) p ss h.0, ih)) (λ _. ih)
