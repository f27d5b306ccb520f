-- What holds of each or of some element of a list.
use Rattle.std.proofs.Common.{◌≡◌, Bool, true, false, cond, List, [], ◌∷◌, ◌++◌, map, filter, sym, refl, ◌∙◌, subst, inl, inr}
use mathlib.Core.Bool.{false≢true}
use Rattle.std.proofs.lemmas.Bool.{cond_both, and_parts, and_from}
use Rattle.rules.specs.First.{every}
use Rattle.rules.specs.Constraints.{Each, SomeOf}

module _ {X : Type 0} where
  pub each_weaker : (P Q : X → Type 0) → ((x : X) → P x → Q x) → (xs : List X) → Each P xs → Each Q xs
  each_weaker P Q f [] h = tt
  each_weaker P Q f (x ∷ xs) h = (f x h.0, each_weaker P Q f xs h.1)

  pub each_zip : (P Q R : X → Type 0) → ((x : X) → P x → Q x → R x) → (xs : List X) → Each P xs → Each Q xs → Each R xs
  each_zip P Q R f [] h k = tt
  each_zip P Q R f (x ∷ xs) h k = (f x h.0 k.0, each_zip P Q R f xs h.1 k.1)

  pub each_append : (P : X → Type 0) (xs ys : List X) → Each P xs → Each P ys → Each P (xs ++ ys)
  each_append P [] ys h k = k
  each_append P (x ∷ xs) ys h k = (h.0, each_append P xs ys h.1 k)

  pub each_parts : (P : X → Type 0) (xs ys : List X) → Each P (xs ++ ys) → Each P xs × Each P ys
  each_parts P [] ys h = (tt, h)
  each_parts P (x ∷ xs) ys h = let p = each_parts P xs ys h.1 in ((h.0, p.0), p.1)

  pub each_map : {Y : Type 0} (P : Y → Type 0) (f : X → Y) (xs : List X) → Each (λ x. P (f x)) xs → Each P (map f xs)
  each_map P f [] h = tt
  each_map P f (x ∷ xs) h = (h.0, each_map P f xs h.1)

  pub each_unmap : {Y : Type 0} (P : Y → Type 0) (f : X → Y) (xs : List X) → Each P (map f xs) → Each (λ x. P (f x)) xs
  each_unmap P f [] h = tt
  each_unmap P f (x ∷ xs) h = (h.0, each_unmap P f xs h.1)

  -- at one element
  pub each_at : (P : X → Type 0) (x : X) (xs : List X) → Each P xs → SomeOf (λ y. y ≡ x) xs → P x
  each_at P x [] h k = absurd k
  each_at P x (y ∷ xs) h (inl e) = subst P e h.0
  each_at P x (y ∷ xs) h (inr k) = each_at P x xs h.1 k

  pub each_there : (xs : List X) → Each (λ x. SomeOf (λ y. y ≡ x) xs) xs
  each_there [] = tt
  each_there (x ∷ xs) = (inl refl, each_weaker (λ z. SomeOf (λ y. y ≡ z) xs) (λ z. SomeOf (λ y. y ≡ z) (x ∷ xs)) (λ z h. inr h) xs (each_there xs))

  -- what passes a test
  pub each_kept : (P : X → Type 0) (p : X → Bool) (xs : List X) → Each (λ x. p x ≡ true → P x) xs → Each P (filter p xs)
  each_kept P p [] h = tt
  each_kept P p (x ∷ xs) h = let ih = each_kept P p xs h.1 in cond_both (p x) (x ∷ filter p xs) (filter p xs) (Each P) (λ e. (h.0 e, ih)) (λ _. ih)

  pub each_passing : (P : X → Type 0) (p : X → Bool) (xs : List X) → Each P xs → Each P (filter p xs)
  each_passing P p xs h = each_kept P p xs (each_weaker P (λ x. p x ≡ true → P x) (λ x k _. k) xs h)

  pub each_kept_at : (P : X → Type 0) (p : X → Bool) (xs : List X) → Each P (filter p xs) → Each (λ x. p x ≡ true → P x) xs
  each_kept_at P p [] h = tt
  each_kept_at P p (x ∷ xs) h = go (each_kept_at P p xs) (p x) refl h
    where
      go : (Each P (filter p xs) → Each (λ y. p y ≡ true → P y) xs) → (b : Bool) → p x ≡ b → Each P (cond b (x ∷ filter p xs) (filter p xs)) → (p x ≡ true → P x) × Each (λ y. p y ≡ true → P y) xs
      go ih true e h = (λ _. h.0, ih h.1)
      go ih false e h = (λ t. absurd (false≢true (sym e ∙ t)), ih h)

  pub each_true : (p : X → Bool) (xs : List X) → every p xs ≡ true → Each (λ x. p x ≡ true) xs
  each_true p [] e = tt
  each_true p (x ∷ xs) e = let q = and_parts (p x) (every p xs) e in (q.0, each_true p xs q.1)

  pub true_each : (p : X → Bool) (xs : List X) → Each (λ x. p x ≡ true) xs → every p xs ≡ true
  true_each p [] h = refl
  true_each p (x ∷ xs) h = and_from (p x) (every p xs) h.0 (true_each p xs h.1)

  pub each_of : (P : X → Type 0) → ((x : X) → P x) → (xs : List X) → Each P xs
  each_of P f [] = tt
  each_of P f (x ∷ xs) = (f x, each_of P f xs)

  -- an element of which something holds
  pub each_some : (P Q R : X → Type 0) → ((x : X) → P x → Q x → R x) → (xs : List X) → Each P xs → SomeOf Q xs → SomeOf R xs
  each_some P Q R f [] h k = k
  each_some P Q R f (x ∷ xs) h (inl k) = inl (f x h.0 k)
  each_some P Q R f (x ∷ xs) h (inr k) = inr (each_some P Q R f xs h.1 k)

  pub some_map : {Y : Type 0} (P : Y → Type 0) (f : X → Y) (xs : List X) → SomeOf (λ x. P (f x)) xs → SomeOf P (map f xs)
  some_map P f [] h = h
  some_map P f (x ∷ xs) (inl h) = inl h
  some_map P f (x ∷ xs) (inr h) = inr (some_map P f xs h)

  pub some_unmap : {Y : Type 0} (P : Y → Type 0) (f : X → Y) (xs : List X) → SomeOf P (map f xs) → SomeOf (λ x. P (f x)) xs
  some_unmap P f [] h = h
  some_unmap P f (x ∷ xs) (inl h) = inl h
  some_unmap P f (x ∷ xs) (inr h) = inr (some_unmap P f xs h)

  pub some_kept_by : (P : X → Type 0) (p : X → Bool) (xs : List X) → SomeOf (λ x. (p x ≡ true) × P x) xs → SomeOf P (filter p xs)
  some_kept_by P p [] h = h
  some_kept_by P p (x ∷ xs) (inl h) = rw h.0 (inl h.1)
  some_kept_by P p (x ∷ xs) (inr h) = let ih = some_kept_by P p xs h in cond_both (p x) (x ∷ filter p xs) (filter p xs) (SomeOf P) (λ _. inr ih) (λ _. ih)

  pub some_weaker : (P Q : X → Type 0) → ((x : X) → P x → Q x) → (xs : List X) → SomeOf P xs → SomeOf Q xs
  some_weaker P Q f [] h = h
  some_weaker P Q f (x ∷ xs) (inl h) = inl (f x h)
  some_weaker P Q f (x ∷ xs) (inr h) = inr (some_weaker P Q f xs h)
