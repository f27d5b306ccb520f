-- What a formatter holds after items were written to it.
use Rattle.std.proofs.Common.{◌≡◌, ℕ, List, [], ◌∷◌, ◌++◌, map, Some, None, Ok, Err, Option, Result, refl, sym, ap, ◌∙◌, subst}
use Rattle.std.specs.declared.fmt.Error.{Error}
use Rattle.std.specs.declared.fmt.Formatter.{Formatter}
use Rattle.std.specs.List.{flat_map}
use Rattle.std.specs.Option.{IfSome}
use Rattle.std.specs.Result.{OnOk}
use Rattle.std.specs.Fmt.{◌++?◌, IsPlainFormatter, HasWritten, DisplaysOnOk}
use Rattle.std.specs.Iterator.{Drains}
use Rattle.std.proofs.Output.{then_text_assoc, has_written_append, has_written_of_eq}
use Rattle.std.proofs.lemmas.Bool.{false≢true}
use Rattle.std.proofs.iter.Yields.{gives_Drains}
use Rattle.std.proofs.lemmas.Iterator.{YieldsList}
use Rattle.std.proofs.lemmas.List.{append-nil}
use Rattle.std.proofs.lemmas.List.Folds.{flat_map-map}
use Rattle.text.specs.Joined.{joined}

none_before : (o : Option (List ℕ)) → Some [] ++? o ≡ o
none_before None = refl
none_before (Some bs) = refl

none_behind : (o : Option (List ℕ)) → o ++? Some [] ≡ o
none_behind None = refl
none_behind (Some bs) = ap Some (append-nil bs)

-- one item more
pub joined_more : {X : Type 0} (text : X → Option (List ℕ)) (xs : List X) (x : X) → joined text xs ++? text x ≡ joined text (xs ++ x ∷ [])
joined_more text [] x = none_before (text x) ∙ sym (none_behind (text x))
joined_more text (y ∷ ys) x = then_text_assoc (text y) (joined text ys) (text x) ∙ ap (λ o. text y ++? o) (joined_more text ys x)

-- where each item has a text
joined_known : {X Y : Type 0} (text : Y → Option (List ℕ)) (bytes : X → List ℕ) (v : Y → X) → ((y : Y) → text y ≡ Some (bytes (v y))) → (ys : List Y) → joined text ys ≡ Some (flat_map bytes (map v ys))
joined_known text bytes v known [] = refl
joined_known text bytes v known (y ∷ ys) = λ i. known y i ++? joined_known text bytes v known ys i

module _ {W : Type 0} (took : W → List ℕ → W → Type 0) where
  -- g is f, if that was plain, after the text in o was written
  abbrev pub Shown : Formatter W → Option (List ℕ) → Formatter W → Type 0
  Shown f o g = IfSome o (λ bs. IsPlainFormatter f → HasWritten took f bs g)

  pub shown_more : (f g h : Formatter W) (o p : Option (List ℕ)) (u : Unit {0}) → Shown f o g → DisplaysOnOk took g (Ok u) p h → Shown f (o ++? p) h
  shown_more f g h None p u before wrote = tt
  shown_more f g h (Some a) None u before wrote = tt
  shown_more f g h (Some a) (Some b) u before wrote = λ plain. let far = before plain in has_written_append took f a g b h far (wrote far.plain refl)

  pub shown_ok : (f g : Formatter W) (o : Option (List ℕ)) (u : Unit {0}) → Shown f o g → DisplaysOnOk took f (Ok u) o g
  shown_ok f g None u all = tt
  shown_ok f g (Some a) u all = λ plain ok. all plain

  -- w takes the items of an iterator to h of the elements of xs, and each item prints the bytes of what w takes it to
  pub shown_each : {S A C X : Type 0} {steps : S → Option A → S → Type 0} (s : S) (text : A → Option (List ℕ)) (bytes : C → List ℕ) (w : A → C) (h : X → C) (xs : List X) (f g : Formatter W) (r : Result (Unit {0}) Error) → ((x : A) → text x ≡ Some (bytes (w x))) → OnOk r ((ys : List A) × Drains steps s ys × DisplaysOnOk took f r (joined text ys) g) → YieldsList steps w s (map h xs) → DisplaysOnOk took f r (Some (flat_map (λ x. bytes (h x)) xs)) g
  shown_each {steps = steps} s text bytes w h xs f g (Err e) known wrote given = λ plain ok. absurd (false≢true ok)
  shown_each {steps = steps} s text bytes w h xs f g (Ok u) known wrote given =
      let items : map w wrote.0 ≡ map h xs = gives_Drains steps w wrote.0 (map h xs) s given.runs wrote.1 in
      let all : joined text wrote.0 ≡ Some (flat_map (λ x. bytes (h x)) xs) = joined_known text bytes w known wrote.0 ∙ ap (λ cs. Some (flat_map bytes cs)) items ∙ ap Some (flat_map-map bytes h xs) in
      subst (λ o. DisplaysOnOk took f (Ok u) o g) all wrote.2

  -- one text and then another
  pub then_shown : (f g h : Formatter W) (a b all : List ℕ) (u : Unit {0}) (r : Result (Unit {0}) Error) → DisplaysOnOk took f (Ok u) (Some a) g → DisplaysOnOk took g r (Some b) h → a ++ b ≡ all → DisplaysOnOk took f r (Some all) h
  then_shown f g h a b all u r one two is = λ plain ok. let far = one plain refl in has_written_of_eq took f (a ++ b) all h is (has_written_append took f a g b h far (two far.plain ok))
