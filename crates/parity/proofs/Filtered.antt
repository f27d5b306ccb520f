-- What a `filter_map` yields, where the closure is known at the items of the list alone.
use Rattle.std.proofs.Common.{◌≡◌, Bool, true, false, List, [], ◌∷◌, Some, None, MatchOption, Option, sym, refl, ap, ◌∙◌, subst, true≢false}
use denote.Param.Members.{Mut}
use Rattle.std.specs.Fn.{Called}
use Rattle.std.specs.Option.{is_some}
use Rattle.std.specs.List.{FoldsTo, cons_option, filter_map}
use Rattle.std.specs.Iterator.{AlwaysYields, Yields, CallableAtEachTurn}
use Rattle.std.specs.Iterator.Adapters.{filter_map_source, filter_map_callee, filter_map_steps}
use Rattle.std.specs.declared.iter.FilterMap.{FilterMap}
use Rattle.std.proofs.lemmas.Iterator.{YieldsList}
use Rattle.rules.specs.Constraints.{Each}

module _ {S A B C F : Type 0} (steps : S → Option A → S → Type 0) (v : A → B) (g : Mut F (A × Unit {0}) (Option C)) (P : B → Type 0) (h : B → Option C) (Good : F → Type 0) (k : (w : F) (x : A) (r : Option C) (q : F) → Good w → P (v x) → Called g w (x, tt) r q → Good q × (r ≡ h (v x))) where
  -- one item of the source
  went : (ys : List B) (t u : S) (x : A) → AlwaysYields steps v t ys → Each P ys → steps t (Some x) u → (zs : List B) × (ys ≡ v x ∷ zs) × AlwaysYields steps v u zs × Each P zs × P (v x)
  went [] t u x e all p = absurd (e x u p)
  went (y ∷ ys) t u x e all p =
      let n = e.1 x u p in
      (ys, ap (λ w. w ∷ ys) (sym n.0), n.1, all.1, subst P (sym n.0) all.0)

  ended : (ys : List B) (t u : S) → AlwaysYields steps v t ys → steps t None u → ys ≡ []
  ended [] t u e p = refl
  ended (y ∷ ys) t u e p = absurd (e.0 u p)

  -- the items that are passed over give nothing
  passed : (xs : List A) (ys : List B) (t u : S) (w q : F) → Good w → AlwaysYields steps v t ys → Each P ys → Yields steps t xs u → FoldsTo (λ p x r. Called g p (x, tt) None r) w xs q → (zs : List B) × Good q × (filter_map h ys ≡ filter_map h zs) × AlwaysYields steps v u zs × Each P zs
  passed [] ys t u w q a e all y c = (ys, subst Good c a, refl, subst (λ z. AlwaysYields steps v z ys) y e, all)
  passed (x ∷ xs) ys t u w q a e all y c =
      let n = went ys t y.0 x e all y.1 in
      let m = k w x None c.0 a n.4 c.1 in
      let r = passed xs n.0 y.0 u c.0 q m.0 n.2 n.3 y.2 c.2 in
      (r.0, r.1, ap (filter_map h) n.1 ∙ ap (λ o. cons_option o (filter_map h n.0)) (sym m.1) ∙ r.2, r.3, r.4)

  came : (more : List B) (t u : S) (w q : F) (y : C) (o : Option A) → Good w → AlwaysYields steps v t more → Each P more → steps t o u → MatchOption o ((Some y ≡ None) × (q ≡ w)) (λ x. Called g w (x, tt) (Some y) q × (true ≡ true)) → (zs : List B) × Good q × (filter_map h more ≡ y ∷ filter_map h zs) × AlwaysYields steps v u zs × Each P zs
  came more t u w q y None a e all p c = absurd (true≢false (ap is_some c.0))
  came more t u w q y (Some x) a e all p c =
      let n = went more t u x e all p in
      let m = k w x (Some y) q a n.4 c.0 in
      (n.0, m.0, ap (filter_map h) n.1 ∙ ap (λ o. cons_option o (filter_map h n.0)) (sym m.1), n.2, n.3)

  stopped : (more : List B) (t u : S) (Q : Type 0) (R : A → Type 0) (o : Option A) → AlwaysYields steps v t more → steps t o u → MatchOption o Q (λ x. R x × (false ≡ true)) → more ≡ []
  stopped more t u Q R None e p c = ended more t u e p
  stopped more t u Q R (Some x) e p c = absurd (true≢false (sym c.1))

  next_one : (ys : List B) (s j : FilterMap S F) (y : C) → Good (filter_map_callee s) → AlwaysYields steps v (filter_map_source s) ys → Each P ys → filter_map_steps steps g s (Some y) j → (zs : List B) × Good (filter_map_callee j) × (filter_map h ys ≡ y ∷ filter_map h zs) × AlwaysYields steps v (filter_map_source j) zs × Each P zs
  next_one ys s j y a e all p =
      let m = passed p.0 ys (filter_map_source s) p.3.0 (filter_map_callee s) p.2 a e all p.3.1 p.4 in
      let n = came m.0 p.3.0 (filter_map_source j) p.2 (filter_map_callee j) y p.1 m.1 m.3 m.4 p.3.2 p.5 in
      (n.0, n.1, m.2 ∙ n.2, n.3, n.4)

  all_come : (zs : List C) (ys : List B) (s : FilterMap S F) → Good (filter_map_callee s) → filter_map h ys ≡ zs → AlwaysYields steps v (filter_map_source s) ys → Each P ys → AlwaysYields (filter_map_steps steps g) (λ y. y) s zs
  all_come [] ys s a d e all = λ y j p. let o = next_one ys s j y a e all p in let z : ◌≡◌ {A = Bool} true false = cc (sym o.2 ∙ d) in true≢false z
  all_come (z ∷ zs) ys s a d e all = (
    λ j p.
        let m = passed p.0 ys (filter_map_source s) p.3.0 (filter_map_callee s) p.2 a e all p.3.1 p.4 in
        let n = sym d ∙ m.2 ∙ ap (filter_map h) (stopped m.0 p.3.0 (filter_map_source j) _ _ p.1 m.3 p.3.2 p.5) in
        let f : ◌≡◌ {A = Bool} true false = cc n in true≢false f,
    λ y j p.
        let o = next_one ys s j y a e all p in
        let n = sym o.2 ∙ d in
        let here : y ≡ z = cc n in
        let rest : filter_map h o.0 ≡ zs = cc n in
        (here, all_come zs o.0 j o.1 rest o.3 o.4),
  )

-- P holds of each item of the list, and Good of the closure from the first call to the last
pub YieldsList-from_filter_map_at : {S A B C F : Type 0} {steps : S → Option A → S → Type 0} {v : A → B} {ys : List B} {s : FilterMap S F} (g : Mut F (A × Unit {0}) (Option C)) (P : B → Type 0) (h : B → Option C) (Good : F → Type 0) → YieldsList steps v (filter_map_source s) ys → Good (filter_map_callee s) → Each P ys → ((w : F) (x : A) (r : Option C) (q : F) → Good w → P (v x) → Called g w (x, tt) r q → Good q × (r ≡ h (v x))) → YieldsList (filter_map_steps steps g) (λ y. y) s (filter_map h ys)
YieldsList-from_filter_map_at {S} {A} {B} {C} {F} {steps} {v} {ys} {s} g P h Good e a all k = record { runs = all_come steps v g P h Good k (filter_map h ys) ys s a refl e.runs all }

-- and so it may be called at each
module _ {S A B F : Type 0} (steps : S → Option A → S → Type 0) (v : A → B) (P : B → Type 0) (R : F → A → F → Type 0) (Q : F → A → Type 0) (Good : F → Type 0) (stays : (w : F) (x : A) (q : F) → Good w → R w x q → Good q) (may : (w : F) (x : A) → Good w → P (v x) → Q w x) where
  serves : (xs : List A) (ys : List B) (s t u : S) (p q : F) (x : A) → Good p → AlwaysYields steps v s ys → Each P ys → Yields steps s xs t → FoldsTo R p xs q → steps t (Some x) u → Q q x
  serves [] [] s t u p q x a e all y c l = absurd (e x u (subst (λ z. steps z (Some x) u) (sym y) l))
  serves [] (z ∷ ys) s t u p q x a e all y c l =
      may q x (subst Good c a) (subst P (sym (e.1 x u (subst (λ z. steps z (Some x) u) (sym y) l)).0) all.0)
  serves (w ∷ xs) [] s t u p q x a e all y c l = absurd (e w y.0 y.1)
  serves (w ∷ xs) (z ∷ ys) s t u p q x a e all y c l = serves xs ys y.0 t u c.0 q x (stays p w c.0 a c.1) (e.1 w y.0 y.1).1 all.1 y.2 c.2 l

pub serves_at : {S A B F : Type 0} {steps : S → Option A → S → Type 0} {v : A → B} (P : B → Type 0) (R : F → A → F → Type 0) (Q : F → A → Type 0) (Good : F → Type 0) → ((w : F) (x : A) (q : F) → Good w → R w x q → Good q) → ((w : F) (x : A) → Good w → P (v x) → Q w x) → {ys : List B} {s : S} {p : F} → YieldsList steps v s ys → Each P ys → Good p → CallableAtEachTurn steps R Q s p
serves_at {steps = steps} {v = v} P R Q Good stays may {ys} {s} {p} e all a = record { at = λ xs t q x u y c l. serves steps v P R Q Good stays may xs ys s t u p q x a e.runs all y c l }
