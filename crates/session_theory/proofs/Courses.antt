-- What the course of the search over the rules that stand tells of them.
use Rattle.std.proofs.Common.{◌≡◌, ℕ, ◌^◌, ◌≤◌, Bool, ◌↔◌, List, [], ◌∷◌, length, Some, None, Option, refl, inl, arith, pow_pos}
use Rattle.rules.specs.Settings.{Setting, setting}
use Rattle.rules.specs.Constraints.{Constraint, SomeOf, Earliest}
use Rattle.rules.specs.Rows.{free, tally}
use Rattle.parity_theory.specs.Standing.{KeepsParities}
use Rattle.parity_theory.specs.Counting.{Exactly}
use Rattle.parity_theory.specs.Claims.{LawfulRules}
use Rattle.parity_theory.proofs.Results.{reduction_right, freedom_right}
use Rattle.search_theory.specs.Tries.{Course, found, nothing, due}
use Rattle.search_theory.specs.Courses.{after}
use Rattle.search_theory.specs.Theorems.{Unkept, Told}
use Rattle.search_theory.proofs.Courses.{tells}
use Rattle.session_theory.specs.System.{system, Fits}
use Rattle.session_theory.specs.Law.{Room}
use Rattle.session_theory.proofs.Systems.{system_fits, no_system}

-- what the course after t tries tells of the rules
abbrev pub Answered : ℕ → List Constraint → ℕ → Course → Type 0
Answered n rules t (found values) = (length values ≡ n) × Earliest n rules (setting values)
Answered n rules t nothing = Unkept rules
Answered n rules t (due ts) = Room n rules t

-- where settings are counted and there is at least one, there is one
one_of : (n k : ℕ) (P : Setting → Type 0) → 1 ≤ k → Exactly n k P → (s : Setting) × P s
one_of n k P some e = by e.those e.size e.just
  where
    by : (those : List (List Bool)) → length those ≡ k → ((s : List Bool) → SomeOf (λ t. t ≡ s) those ↔ ((length s ≡ n) × P (setting s))) → (s : Setting) × P s
    by [] size just = absurd (omega arith)
    by (s ∷ ss) size just = (setting s, ((just s).0 (inl refl)).1)

module _ (n : ℕ) (rules : List Constraint) (law : LawfulRules n rules) where
  answered_by : (rs : List Constraint) → Fits n rules rs → (t : ℕ) (c : Course) → Told n rs t c → Answered n rules t c
  answered_by rs fits t (found values) told =
      let e = told.1 in
      (told.0, record { keeps = (fits.same_settings (setting values)).1 e.keeps; first = λ s k. e.first s ((fits.same_settings s).0 k) })
  answered_by rs fits t nothing told = λ s k. told s ((fits.same_settings s).0 k)
  answered_by rs fits t (due ts) told =
      let f = tally (free rs) n in
      let counted = freedom_right.counts n f rules law fits.free_switches in
      record {
        free = f;
        is_freedom = fits.free_switches;
        some_keeps = one_of n (2 ^ f) (KeepsParities n rules) (pow_pos f) counted;
        count = counted;
        below = told;
      }

  pub answered : (t : ℕ) → Answered n rules t (after n (system n rules) t)
  answered t = by (system n rules) refl
    where
      by : (o : Option (List Constraint)) → system n rules ≡ o → Answered n rules t (after n o t)
      by None e = λ s k. (no_system n rules law).0 e s (reduction_right.implied n rules s k)
      by (Some rs) e = let fits = system_fits n rules law rs e in answered_by rs fits t (after n (Some rs) t) (tells n rs fits.reduced t)
