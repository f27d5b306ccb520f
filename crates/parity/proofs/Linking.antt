-- Rules linked in buckets: one more rule is linked, and a walk along a bucket leaves out nothing that marks.
use Rattle.std.proofs.Common.{◌≡◌, ℕ, zero, suc, ◌+◌, ◌-◌, ◌<◌, ◌≤◌, Bool, true, false, cond, eqb, ltb, List, [], ◌∷◌, map, length, get_or, drop, set, replicate, Some, None, Option, sym, refl, ap, ◌∙◌, subst, ap₂, inl, inr, arith}
use Rattle.std.specs.List.{position_from}
use Rattle.std.proofs.lemmas.List.{at_drop_more, at_drop_all, drop-drop, get_or-drop, length-drop, get_or-map, get_or-replicate, get_or-set_same, get_or-set_other, length-map}
use Rattle.std.proofs.lemmas.Bool.{cases_eq, eqb-true, eq-eqb, ne_eqb, cond-true, cond-false, and_parts}
use Rattle.rules.specs.declared.literals.Literal.{Literal}
use Rattle.rules.specs.declared.rule.Rule.{Rule}
use Rattle.rules.specs.First.{every}
use Rattle.rules.specs.Constraints.{Constraint, clause, switch_of}
use Rattle.rules.specs.Lawful.{lawful}
use Rattle.rules.specs.Views.{constraint}
use Rattle.parity_theory.proofs.Members.{Proper}
use Rattle.parity.specs.declared.sorted.Sorted.{Sorted}
use Rattle.parity.specs.Places.{breaking_place, marked, marked_by}
use Rattle.parity.specs.Buckets.{shared_bucket, bucket, is_bucket, is_in, no_rule, first_from, LinkedFrom}
use Rattle.parity.proofs.Totals.{other_bucket}

-- there are 256 buckets
pub bucket_small : (ls : List Literal) (b : ℕ) → Some b ≡ bucket ls → b < 256
bucket_small ls b e = by (ltb 5 (length ls)) e
  where
    by : (t : Bool) → Some b ≡ cond t None (Some (shared_bucket (map switch_of ls))) → b < 256
    by true h = let z : ◌≡◌ {A = ℕ} 0 1 = cc in absurd (omega arith)
    by false h = let is : b ≡ shared_bucket (map switch_of ls) = cc in omega arith

-- the rule at an index
pub at_rule : (rules : List Rule) (i : ℕ) (r : Rule) → i < length rules → r ≡ get_or rules i r → get_or (map constraint rules) i no_rule ≡ constraint r
at_rule rules i r here is = get_or-map constraint rules i r no_rule here ∙ ap constraint (sym is)

-- the buckets that a clause among the rules is in
pub its_bucket : (rules : List Rule) (i : ℕ) (r : Rule) (ls : List Literal) (o : Option ℕ) → i < length rules → r ≡ get_or rules i r → constraint r ≡ clause ls → o ≡ bucket ls → (b : ℕ) → is_in b (get_or (map constraint rules) i no_rule) ≡ is_bucket b o
its_bucket rules i r ls o here is made its b = ap (is_in b) (at_rule rules i r here is ∙ made) ∙ ap (is_bucket b) (sym its)

-- ---- linking

pub linked_none : (rules : List Constraint) (n : ℕ) (next : List (Option ℕ)) → n ≡ length rules → length rules ≤ 2112 → LinkedFrom rules n (replicate 256 None) next
linked_none rules n next all fits = record {
  room = fits;
  starts = λ b h. get_or-replicate 256 b None None h ∙ sym (at_drop_all (position_from (is_in b) n) rules n (omega arith));
  goes_on = λ b k l h. absurd (omega arith);
}

module _ (rules : List Constraint) (i j : ℕ) (first next : List (Option ℕ)) (step : i ≡ j + 1) (here : j < length rules) (before : LinkedFrom rules i first next) where
  one_more : (c : ℕ) → first_from rules c j ≡ cond (is_in c (get_or rules j no_rule)) (Some j) (first_from rules c i)
  one_more c = at_drop_more (position_from (is_in c) j) rules j no_rule here ∙ ap (λ k. cond (is_in c (get_or rules j no_rule)) (Some j) (first_from rules c k)) (sym step)

  -- the rule before those that are linked is in no bucket
  pub linked_past : ((c : ℕ) → is_in c (get_or rules j no_rule) ≡ false) → LinkedFrom rules j first next
  linked_past none = record {
    room = before.room;
    starts = λ c h. before.starts c h ∙ sym (one_more c ∙ cond-false _ _ _ (none c));
    goes_on = λ c k l h inn.
        elim (cases_eq k j) [
          | inl e ↦ (let z : ◌≡◌ {A = Bool} true false = sym inn ∙ ap (λ x. is_in c (get_or rules x no_rule)) e ∙ none c in absurd (cc))
          | inr ne ↦ before.goes_on c k (omega arith) h inn
        ];
  }

  -- it becomes the first of its bucket
  module _ (b : ℕ) (v : Option ℕ) (small : b < 256) (long : length first ≡ 256) (wide : length next ≡ 2112) (its : (c : ℕ) → is_in c (get_or rules j no_rule) ≡ eqb b c) (leads : v ≡ get_or first b None) where
    new_starts : (c : ℕ) → c < 256 → get_or (set first b (Some j)) c None ≡ first_from rules c j
    new_starts c h =
        elim (cases_eq c b) [
          | inl e ↦ ap (λ x. get_or (set first b (Some j)) x None) e ∙ get_or-set_same first b (Some j) None (omega arith) ∙ sym (one_more c ∙ cond-true _ _ _ (its c ∙ eq-eqb b c (sym e)))
          | inr ne ↦ get_or-set_other first b c (Some j) None ne ∙ before.starts c h ∙ sym (one_more c ∙ cond-false _ _ _ (its c ∙ ne_eqb b c (λ e. ne (sym e))))
        ]

    new_goes_on : (c k : ℕ) → j ≤ k → k < length rules → is_in c (get_or rules k no_rule) ≡ true → get_or (set next j v) k None ≡ first_from rules c (k + 1)
    new_goes_on c k l h inn =
        elim (cases_eq k j) [
          | inl e ↦ (let same : b ≡ c = eqb-true b c (sym (its c) ∙ sym (ap (λ x. is_in c (get_or rules x no_rule)) e) ∙ inn) in
              ap (λ x. get_or (set next j v) x None) e ∙ get_or-set_same next j v None (omega (arith, before.room)) ∙ leads ∙ before.starts b small ∙ ap₂ (λ x y. first_from rules x y) same (step ∙ ap (λ x. x + 1) (sym e)))
          | inr ne ↦ get_or-set_other next j k v None ne ∙ before.goes_on c k (omega arith) h inn
        ]

    pub linked_more : LinkedFrom rules j (set first b (Some j)) (set next j v)
    linked_more = record { room = before.room; starts = new_starts; goes_on = new_goes_on }

-- ---- walking

every_tail : {X : Type 0} (t : X → Bool) (xs : List X) (i : ℕ) → every t xs ≡ true → every t (drop i xs) ≡ true
every_tail t xs zero h = h
every_tail t [] (suc i) h = h
every_tail t (x ∷ xs) (suc i) h = every_tail t xs i (and_parts (t x) (every t xs) h).1

-- how far a walk has to go yet
abbrev pub left : ℕ → Option ℕ → ℕ
left n None = 0
left n (Some k) = suc (n - k)

module _ (vs : List ℕ) (b : ℕ) (ok : Proper 256 vs) (few : length vs ≤ 5) (is : b ≡ shared_bucket vs) where
  -- the first rule in the bucket: those before it mark nothing
  record FoundAt (rules : List Constraint) (i k : ℕ) : Type 0 where
    far : ℕ
    at : k ≡ i + far
    inner : far < length rules
    held : is_in b (get_or rules far no_rule) ≡ true
    skips : (marks : List Bool) → marked_by vs (drop far rules) marks ≡ marked_by vs rules marks

  skipped : (r : Constraint) (rules : List Constraint) (marks : List Bool) → lawful 256 r ≡ true → is_in b r ≡ false → marked_by vs rules marks ≡ marked_by vs (r ∷ rules) marks
  skipped r rules marks law e = sym (ap (λ o. marked_by vs rules (marked marks o)) (other_bucket vs b ok few is r law e))

  found : (rules : List Constraint) (i k : ℕ) → every (lawful 256) rules ≡ true → position_from (is_in b) i rules ≡ Some k → FoundAt rules i k
  found [] i k law h = let z : ◌≡◌ {A = ℕ} 0 1 = cc in absurd (omega arith)
  found (r ∷ rules) i k law h = by (is_in b r) refl (found rules (i + 1) k both.1) h
    where
      both : (lawful 256 r ≡ true) × (every (lawful 256) rules ≡ true)
      both = and_parts (lawful 256 r) (every (lawful 256) rules) law

      by : (t : Bool) → is_in b r ≡ t → (position_from (is_in b) (i + 1) rules ≡ Some k → FoundAt rules (i + 1) k) → cond t (Some i) (position_from (is_in b) (i + 1) rules) ≡ Some k → FoundAt (r ∷ rules) i k
      by true e ih g = let same : i ≡ k = cc in record { far = 0; at = omega arith; inner = omega arith; held = e; skips = λ marks. refl }
      by false e ih g =
          let f = ih g in
          record { far = suc f.far; at = omega (arith, f.at); inner = omega (arith, f.inner); held = f.held; skips = λ marks. f.skips marks ∙ skipped r rules marks both.0 e }

  lost : (rules : List Constraint) (i : ℕ) (marks : List Bool) → every (lawful 256) rules ≡ true → position_from (is_in b) i rules ≡ None → marked_by vs rules marks ≡ marks
  lost [] i marks law h = refl
  lost (r ∷ rules) i marks law h = by (is_in b r) refl (lost rules (i + 1) marks both.1) h
    where
      both : (lawful 256 r ≡ true) × (every (lawful 256) rules ≡ true)
      both = and_parts (lawful 256 r) (every (lawful 256) rules) law

      by : (t : Bool) → is_in b r ≡ t → (position_from (is_in b) (i + 1) rules ≡ None → marked_by vs rules marks ≡ marks) → cond t (Some i) (position_from (is_in b) (i + 1) rules) ≡ None → marked_by vs (r ∷ rules) marks ≡ marks
      by true e ih g = let z : ◌≡◌ {A = ℕ} 0 1 = cc in absurd (omega arith)
      by false e ih g = sym (skipped r rules marks both.0 e) ∙ ih g

-- the walk is at the first rule in bucket b from some index on, and the rules from there mark what is left
abbrev pub Walk : List ℕ → List Constraint → ℕ → Option ℕ → List Bool → List Bool → Type 0
Walk vs rules b index marks whole = (i : ℕ) × (index ≡ first_from rules b i) × (marked_by vs (drop i rules) marks ≡ whole)

module _ (vs : List ℕ) (b : ℕ) (ok : Proper 256 vs) (few : length vs ≤ 5) (is : b ≡ shared_bucket vs) (rules : List Constraint) (law : every (lawful 256) rules ≡ true) where
  -- where it is
  walk_at : (k : ℕ) (marks whole : List Bool) → Walk vs rules b (Some k) marks whole → (k < length rules) × (is_in b (get_or rules k no_rule) ≡ true) × (marked_by vs (drop k rules) marks ≡ whole)
  walk_at k marks whole w =
      let f = found vs b ok few is (drop w.0 rules) w.0 k (every_tail (lawful 256) rules w.0 law) (sym w.1) in
      let size = length-drop w.0 rules in (
        omega (arith, f.at, f.inner),
        ap (λ x. is_in b (get_or rules x no_rule)) f.at ∙ ap (is_in b) (sym (get_or-drop w.0 rules f.far no_rule)) ∙ f.held,
        ap (λ x. marked_by vs (drop x rules) marks) f.at ∙ ap (λ l. marked_by vs l marks) (sym (drop-drop f.far w.0 rules)) ∙ f.skips marks ∙ w.2,
      )

  walk_more : (k : ℕ) (new : Option ℕ) (marks after whole : List Bool) → new ≡ first_from rules b (k + 1) → after ≡ marked marks (breaking_place vs (get_or rules k no_rule)) → Walk vs rules b (Some k) marks whole → Walk vs rules b new after whole
  walk_more k new marks after whole leads does w =
      let at = walk_at k marks whole w in
      (k + 1, leads, ap (marked_by vs (drop (k + 1) rules)) does ∙ sym (at_drop_more (λ l. marked_by vs l marks) rules k no_rule at.0) ∙ at.2)

  walk_nearer : (k : ℕ) (new : Option ℕ) → new ≡ first_from rules b (k + 1) → left (length rules) new < left (length rules) (Some k)
  walk_nearer k None e = omega arith
  walk_nearer k (Some m) e =
      let f = found vs b ok few is (drop (k + 1) rules) (k + 1) m (every_tail (lawful 256) rules (k + 1) law) (sym e) in
      omega (arith, f.at, f.inner, length-drop (k + 1) rules)

  pub walk_end : (marks whole : List Bool) → Walk vs rules b None marks whole → marks ≡ whole
  walk_end marks whole w = sym (lost vs b ok few is (drop w.0 rules) w.0 marks (every_tail (lawful 256) rules w.0 law) (sym w.1)) ∙ w.2

-- one turn of the walk, at the rule with index i
pub record Turn (vs : List ℕ) (s : Sorted) (b : ℕ) (index : Option ℕ) (i : ℕ) (marks whole : List Bool) : Type 0 where
  pub inner : i < length s.rules.now
  pub linked : i < 2112
  pub nearer : left (length (map constraint s.rules.now)) (get_or s.next i None) < left (length (map constraint s.rules.now)) index
  pub goes_on : (r : Rule) (after : List Bool) → after ≡ marked marks (breaking_place vs (constraint (get_or s.rules.now i r))) → Walk vs (map constraint s.rules.now) b (get_or s.next i None) after whole

pub turn : (vs : List ℕ) (s : Sorted) (b : ℕ) (index : Option ℕ) (i : ℕ) (marks whole : List Bool) → Proper 256 vs → length vs ≤ 5 → b ≡ shared_bucket vs → index ≡ Some i → Walk vs (map constraint s.rules.now) b index marks whole → Turn vs s b index i marks whole
turn vs s b index i marks whole ok few is at walk =
    let rules = map constraint s.rules.now in
    let size = length-map s.rules.now constraint in
    let here = subst (λ o. Walk vs rules b o marks whole) at walk in
    let w = walk_at vs b ok few is rules s.sound i marks whole here in
    let inner : i < length s.rules.now = omega (arith, w.0, size) in
    let leads = s.linked.goes_on b i (omega arith) w.0 w.1 in
    record {
      inner = inner;
      linked = omega (arith, w.0, s.linked.room);
      nearer = subst (λ o. left (length rules) (get_or s.next i None) < left (length rules) o) (sym at) (walk_nearer vs b ok few is rules s.sound i (get_or s.next i None) leads);
      goes_on = λ r after does. walk_more vs b ok few is rules s.sound i (get_or s.next i None) marks after whole leads (does ∙ ap (λ q. marked marks (breaking_place vs q)) (sym (get_or-map constraint s.rules.now i r no_rule inner))) here;
    }
