-- Systems made of two lists of rules, and rules at their places.
use Rattle.std.proofs.Common.{◌≡◌, ℕ, zero, suc, ◌<◌, Bool, true, false, ◌||◌, ◌⊎◌, List, [], ◌∷◌, ◌++◌, length, get_or, None, refl, inl, inr, arith}
use Rattle.rules.specs.Constraints.{Constraint, Each, SomeOf}
use Rattle.search_theory.specs.Parts.{Part}
use Rattle.search_theory.specs.Forcing.{says, dead, any_dead, Still, Lies}
use Rattle.search_theory.proofs.Forcing.{still_rest}

module _ {X : Type 0} (P : X → Type 0) where
  pub each_front : (xs ys : List X) → Each P (xs ++ ys) → Each P xs
  each_front [] ys h = tt
  each_front (x ∷ xs) ys h = (h.0, each_front xs ys h.1)

  pub each_back : (xs ys : List X) → Each P (xs ++ ys) → Each P ys
  each_back [] ys h = h
  each_back (x ∷ xs) ys h = each_back xs ys h.1

  pub some_front : (xs ys : List X) → SomeOf P xs → SomeOf P (xs ++ ys)
  some_front [] ys h = absurd h
  some_front (x ∷ xs) ys (inl h) = inl h
  some_front (x ∷ xs) ys (inr h) = inr (some_front xs ys h)

  pub some_back : (xs ys : List X) → SomeOf P ys → SomeOf P (xs ++ ys)
  some_back [] ys h = h
  some_back (x ∷ xs) ys h = inr (some_back xs ys h)

  pub some_at : (xs : List X) (i : ℕ) (d : X) → i < length xs → P (get_or xs i d) → SomeOf P xs
  some_at [] i d h p = absurd (omega arith)
  some_at (x ∷ xs) zero d h p = inl p
  some_at (x ∷ xs) (suc i) d h p = inr (some_at xs i d (omega arith) p)

module _ (p : Part) where
  -- a part-setting is dead where some rule is
  pub dead_any : (system : List Constraint) → SomeOf (λ r. dead p r ≡ true) system → any_dead p system ≡ true
  dead_any [] h = absurd h
  dead_any (r ∷ rs) (inl h) = grind arith
  dead_any (r ∷ rs) (inr h) = let ih = dead_any rs h in grind arith

  any_dead_some : (system : List Constraint) → any_dead p system ≡ true → SomeOf (λ r. dead p r ≡ true) system
  any_dead_some [] h = let z : ◌≡◌ {A = ℕ} 0 1 = cc in absurd (omega arith)
  any_dead_some (r ∷ rs) h = by (any_dead_some rs) (dead p r) refl h
    where
      by : (any_dead p rs ≡ true → SomeOf (λ r. dead p r ≡ true) rs) → (b : Bool) → dead p r ≡ b → (b || any_dead p rs) ≡ true → (dead p r ≡ true) ⊎ SomeOf (λ r. dead p r ≡ true) rs
      by ih true e g = inl e
      by ih false e g = inr (ih g)

  pub any_dead_front : (rs ss : List Constraint) → any_dead p rs ≡ true → any_dead p (rs ++ ss) ≡ true
  any_dead_front rs ss h = dead_any (rs ++ ss) (some_front (λ r. dead p r ≡ true) rs ss (any_dead_some rs h))

  pub any_dead_back : (rs ss : List Constraint) → any_dead p ss ≡ true → any_dead p (rs ++ ss) ≡ true
  any_dead_back rs ss h = dead_any (rs ++ ss) (some_back (λ r. dead p r ≡ true) rs ss (any_dead_some ss h))

  -- and still where every rule is
  pub each_still : (system : List Constraint) → Each (λ r. (dead p r ≡ false) × (says p r ≡ None)) system → Still system p
  each_still [] h = record { live = refl; quiet = refl }
  each_still (r ∷ rs) h =
      let ih = each_still rs h.1 in
      let live = ih.live in
      let quiet = ih.quiet in
      let here = h.0.0 in
      let says_none = h.0.1 in
      record { live = grind arith; quiet = grind arith }

  pub still_both : (rs ss : List Constraint) → Still rs p → Still ss p → Still (rs ++ ss) p
  still_both [] ss h k = k
  still_both (r ∷ rs) ss h k =
      let ih = still_both rs ss (still_rest r rs p h) k in
      let live = h.live in
      let quiet = h.quiet in
      let live-rest = ih.live in
      let quiet-rest = ih.quiet in
      record { live = grind arith; quiet = grind arith }

  pub still_front : (rs ss : List Constraint) → Still (rs ++ ss) p → Still rs p
  still_front [] ss h = record { live = refl; quiet = refl }
  still_front (r ∷ rs) ss h =
      let ih = still_front rs ss (still_rest r (rs ++ ss) p h) in
      let live = h.live in
      let quiet = h.quiet in
      let live-rest = ih.live in
      let quiet-rest = ih.quiet in
      record { live = grind arith; quiet = grind arith }

  pub still_back : (rs ss : List Constraint) → Still (rs ++ ss) p → Still ss p
  still_back [] ss h = h
  still_back (r ∷ rs) ss h = still_back rs ss (still_rest r (rs ++ ss) p h)

-- what forcing by a part of the system does, forcing by the system does
pub lies_front : (rs ss : List Constraint) (p q : Part) → Lies rs p q → Lies (rs ++ ss) p q
lies_front rs ss p q l = record { above = l.above; below = λ a s e. l.below a (still_front a rs ss s) e }

pub lies_back : (rs ss : List Constraint) (p q : Part) → Lies ss p q → Lies (rs ++ ss) p q
lies_back rs ss p q l = record { above = l.above; below = λ a s e. l.below a (still_back a rs ss s) e }
