-- What the search finds keeps the rules, and is the earliest setting that does.
use Rattle.std.proofs.Common.{◌≡◌, ℕ, zero, suc, ◌<◌, ◌≤◌, Bool, true, false, ◌⊎◌, List, [], ◌∷◌, map, is_some, Some, None, Option, unwrap_or, sym, refl, ◌∙◌, subst, inl, inr, arith}
use Rattle.std.proofs.lemmas.List.FromFn.{length-map-range_with_len, get_or-map-range_with_len}
use Rattle.std.proofs.lemmas.Bool.{cases_eq}
use Rattle.rules.specs.declared.literals.Literal.{Literal}
use Rattle.rules.specs.declared.kinds.Side.{Side}
use Rattle.rules.specs.Settings.{Setting, Within, Earlier, setting}
use Rattle.rules.specs.Constraints.{Constraint, clause, parity, switches, switch_of, Each, Keeps, Earliest}
use Rattle.rules.specs.Rows.{free, Falling, Member, Reduced}
use Rattle.search_theory.specs.Parts.{Part, full, Set, Extends}
use Rattle.search_theory.specs.Forcing.{parity_at, says, any_dead, said, Over}
use Rattle.search_theory.specs.Tries.{part, lowest, is_open, values, found, step, Reach, Proper, Agrees, Passed}
use Rattle.search_theory.specs.Theorems.{Found}
use Rattle.search_theory.proofs.Rules.{dead_full}
use Rattle.search_theory.proofs.Switches.{lowest_none, lowest_some}
use Rattle.search_theory.proofs.Stacks.{lowest_open, part_extends, part_has, part_still, reach_proper, Follows, finished, step_follows}
use Rattle.search_theory.proofs.Passing.{part_keeps, none_passed}

pub each_map : {X : Type 0} (P Q : X → Type 0) → ((x : X) → P x → Q x) → (xs : List X) → Each P xs → Each Q xs
each_map P Q f [] h = tt
each_map P Q f (x ∷ xs) h = (f x h.0, each_map P Q f xs h.1)

-- a reduced system is over the n switches
module _ (n : ℕ) where
  clause_over : (ls : List Literal) → Each (λ l. Within n l.switch) ls → Each (Within n) (map switch_of ls)
  clause_over [] h = tt
  clause_over (l ∷ ls) h = (h.0, clause_over ls h.1)

  falling_over : (all : List Constraint) (vs : List ℕ) (b : ℕ) → b ≤ n → Falling b vs → Each (λ v. (1 ≤ v) × (free all v ≡ true)) vs → Each (Within n) vs
  falling_over all [] b h f o = tt
  falling_over all (v ∷ vs) b h f o =
      let here = o.0.0 in
      (omega arith, falling_over all vs v (omega arith) f.1 o.1)

  member_over : (all : List Constraint) (r : Constraint) → Member n all r → Each (Within n) (switches r)
  member_over all (clause ls) m = clause_over ls m
  member_over all (parity [] side) m = tt
  member_over all (parity (d ∷ vs) side) m = (m.0, falling_over all vs d m.0.1 m.1 m.2)

  pub reduced_over : (system : List Constraint) → Reduced n system → Over n system
  reduced_over system red = each_map (Member n system) (λ r. Each (Within n) (switches r)) (member_over system) system red.members

-- where nothing is forced, a dependent is set once the lower free switches are
parity_known : (p : Part) (vs : List ℕ) → Each (Set p) vs → is_some (parity_at p vs) ≡ true
parity_known p [] h = refl
parity_known p (v ∷ vs) h =
    let ih = parity_known p vs h.1 in
    let here = h.0 in
    grind arith

row_set : (p : Part) (d : ℕ) (vs : List ℕ) (side : Side) → says p (parity (d ∷ vs) side) ≡ None → Each (Set p) vs → Set p d
row_set p d vs side h o =
    let k = parity_known p vs o in
    grind arith

module _ (n : ℕ) (all : List Constraint) (p : Part) (w : ℕ) (low : (v : ℕ) → 1 ≤ v → v < w → free all v ≡ true → Set p v) where
  lower_set : (vs : List ℕ) (b : ℕ) → b ≤ w → Falling b vs → Each (λ v. (1 ≤ v) × (free all v ≡ true)) vs → Each (Set p) vs
  lower_set [] b h f o = tt
  lower_set (v ∷ vs) b h f o = (low v o.0.0 (omega arith) o.0.1, lower_set vs v (omega arith) f.1 o.1)

  dependent_set : (rs : List Constraint) → Each (Member n all) rs → said p rs ≡ None → free rs w ≡ false → Set p w
  dependent_set [] m h f = grind arith
  dependent_set (clause ls ∷ rs) m h f = dependent_set rs m.1 (grind arith) f
  dependent_set (parity [] side ∷ rs) m h f = absurd m.0
  dependent_set (parity (d ∷ vs) side ∷ rs) m h f = by (dependent_set rs m.1) (cases_eq d w)
    where
      by : (said p rs ≡ None → free rs w ≡ false → Set p w) → (d ≡ w) ⊎ (d ≡ w → ⊥) → Set p w
      by ih (inl e) = subst (Set p) e (row_set p d vs side (grind arith) (lower_set vs d (omega arith) m.0.1 m.0.2))
      by ih (inr ne) = ih (grind arith) (grind arith)

-- where no free switch below v is open, all switches below v are set
below_set : (n : ℕ) (system : List Constraint) → Reduced n system → (p : Part) → said p system ≡ None → (v : ℕ)
    → ((w : ℕ) → 1 ≤ w → w < v → is_open system p w ≡ false) → (w : ℕ) → 1 ≤ w → w < v → Set p w
below_set n system red p h v low w pos l =
    let frees : (x : ℕ) → 1 ≤ x → x < v → free system x ≡ true → Set p x = λ x g m f. let o = low x g m in grind arith in
    by frees (free system w) refl
  where
    by : ((x : ℕ) → 1 ≤ x → x < v → free system x ≡ true → Set p x) → (f : Bool) → free system w ≡ f → Set p w
    by frees true e = frees w pos l e
    by frees false e = dependent_set n system p w (λ x g m f. frees x g (omega arith) f) system red.members h e

-- two settings that have all of p are equal where p is set
same_where_set : (p : Part) (s t : Setting) → Extends p (full s) → Extends p (full t) → (w : ℕ) → Set p w → t w ≡ s w
same_where_set p s t es et w h = by (p w) refl
  where
    by : (x : Option Bool) → p w ≡ x → t w ≡ s w
    by None e = grind arith
    by (Some b) e =
        let a = es w b e in
        let c = et w b e in
        cc

module _ (n : ℕ) (system : List Constraint) where
  -- a setting that has what is set of the n switches has what was tried
  tries_agree : (t : Setting) (ts : List Literal) → Proper n system ts → ((v : ℕ) (b : Bool) → Within n v → part n system ts v ≡ Some b → t v ≡ b) → Agrees t ts
  tries_agree t [] p h = tt
  tries_agree t (l ∷ ts) p h =
      let low = lowest_open n system (part n system ts) l.switch p.1 in
      (h l.switch l.on low.0 (part_has n system l ts), tries_agree t ts p.2 (λ v b w g. h v b w (part_extends n system l ts low.1 v b g)))

  module _ (red : Reduced n system) (s t : Setting) (ks : Keeps system s) (kt : Keeps system t) where
    -- of two settings that keep the rules, the one that has what was tried is the earlier where they part
    parts : (ts : List Literal) → Proper n system ts → (Passed s ts → ⊥) → Agrees t ts → Agrees s ts ⊎ Earlier n t s
    parts [] p np a = inl tt
    parts (l ∷ ts) p np a = by (parts ts p.2 (λ h. np (inr h)) a.1) l.on refl (s l.switch) refl
      where
        by : Agrees s ts ⊎ Earlier n t s → (b : Bool) → l.on ≡ b → (c : Bool) → s l.switch ≡ c → ((s l.switch ≡ l.on) × Agrees s ts) ⊎ Earlier n t s
        by (inr x) b f c e = inr x
        by (inl g) true f true e = inl (e ∙ sym f, g)
        by (inl g) true f false e = absurd (np (inl (f, e, g)))
        by (inl g) false f false e = inl (e ∙ sym f, g)
        by (inl g) false f true e =
            let q = part n system ts in
            let low = lowest_some (is_open system q) n l.switch p.1 in
            let still = part_still n system (reduced_over n system red) ts p.0 in
            let set = below_set n system red q still.quiet l.switch low.below in
            inr (record {
              at = l.switch;
              within = low.within;
              off = a.0 ∙ f;
              on = e;
              same = λ v pos less. same_where_set q s t (part_keeps n system s ks ts g) (part_keeps n system t kt ts a.1) v (set v pos less);
            })

-- the values of a part-setting, as a setting
value_at : (n : ℕ) (p : Part) (v : ℕ) → Within n v → setting (values n p) v ≡ unwrap_or (p v) false
value_at n p zero w = absurd (omega arith)
value_at n p (suc v) w = get_or-map-range_with_len (λ u. unwrap_or (p u) false) 1 n v (suc v) false (omega arith) (omega arith)

value_set : (n : ℕ) (p : Part) (v : ℕ) → Within n v → Set p v → p v ≡ Some (setting (values n p) v)
value_set n p v w h =
    let e = value_at n p v w in
    grind arith

-- nothing dead and all set: all kept
all_kept : (p : Part) (t : Setting) (rs : List Constraint) → Each (λ r. Each (λ v. p v ≡ Some (t v)) (switches r)) rs → any_dead p rs ≡ false → Keeps rs t
all_kept p t [] o d = tt
all_kept p t (r ∷ rs) o d =
    let f = dead_full p t r o.0 in
    (grind arith, all_kept p t rs o.1 (grind arith))

module _ (n k : ℕ) (system : List Constraint) (ts : List Literal) (red : Reduced n system) (r : Reach n system k ts) where
  -- where nothing is dead and no free switch is open, everything is set
  everything_set : any_dead (part n system ts) system ≡ false → lowest (is_open system (part n system ts)) n ≡ None → (v : ℕ) → Within n v → Set (part n system ts) v
  everything_set d l v w =
      let p = part n system ts in
      let still = part_still n system (reduced_over n system red) ts d in
      below_set n system red p still.quiet (suc n) (λ u pos less. lowest_none (is_open system p) n l u (omega arith)) v w.0 (omega arith)

  module _ (t : Setting) (d : any_dead (part n system ts) system ≡ false) (set : (v : ℕ) → Within n v → part n system ts v ≡ Some (t v)) where
    keeps_all : Keeps system t
    keeps_all =
        all_kept (part n system ts) t system
        (each_map (λ r. Each (Within n) (switches r)) (λ r. Each (λ v. part n system ts v ≡ Some (t v)) (switches r))
        (λ r o. each_map (Within n) (λ v. part n system ts v ≡ Some (t v)) set (switches r) o) system (reduced_over n system red)) d

    has_tries : Agrees t ts
    has_tries = tries_agree n system t ts (reach_proper n system k ts r) (λ v b w h. let e = set v w in cc)

    is_earliest : Earliest n system t
    is_earliest = record { keeps = keeps_all; first = λ s ks. by s ks (parts n system red s t ks keeps_all ts (reach_proper n system k ts r) (none_passed n system s ks k ts r) has_tries) }
      where
        by : (s : Setting) → Keeps system s → Agrees s ts ⊎ Earlier n t s → ((v : ℕ) → Within n v → t v ≡ s v) ⊎ Earlier n t s
        by s ks (inr x) = inr x
        by s ks (inl a) = inl (λ v w. let e = part_keeps n system s ks ts a v (t v) (set v w) in cc)

  pub found_right : (s : List Bool) → step n system ts ≡ found s → Found n system (part n system ts) s
  found_right s e = by (step_follows n system ts (part n system ts) (found s) e)
    where
      by : Follows n system ts (part n system ts) (found s) → Found n system (part n system ts) s
      by (finished d l is) =
          let p = part n system ts in
          let set : (v : ℕ) → Within n v → p v ≡ Some (setting (values n p) v) = λ v w. value_set n p v w (everything_set d l v w) in
          subst (Found n system p) is
          (record { long = length-map-range_with_len (λ v. unwrap_or (p v) false) 1 n; all_set = set; earliest = is_earliest (setting (values n p)) d set })
