-- What a rule forces and when it is dead, as more is set.
use Rattle.std.proofs.Common.{◌≡◌, ℕ, Bool, true, false, not, List, [], ◌∷◌, ◌++◌, map, is_some, Some, None, Option, refl, inl, inr, arith}
use Rattle.rules.specs.declared.literals.Literal.{Literal}
use Rattle.rules.specs.Settings.{Setting}
use Rattle.rules.specs.Constraints.{Constraint, clause, parity, xor, same, is_odd, kept, some_kept, odd_on, switches, switch_of, Each}
use Rattle.search_theory.specs.Parts.{Part, full, SetBut, Extends}
use Rattle.search_theory.specs.Forcing.{broken, all_broken, last_literal, parity_at, last_switch, says, dead}

module _ (p q : Part) (e : Extends p q) where
  broken_up : (ls : List Literal) → all_broken p ls ≡ true → all_broken q ls ≡ true
  broken_up [] h = refl
  broken_up (l ∷ ls) h =
      let ih = broken_up ls in
      let e1 = e l.switch in
      grind arith

  parity_up : (vs : List ℕ) (y : Bool) → parity_at p vs ≡ Some y → parity_at q vs ≡ Some y
  parity_up [] y h = h
  parity_up (v ∷ vs) y h =
      let ih = parity_up vs in
      let e1 = e v in
      grind arith

  literal_up : (ls : List Literal) (l : Literal) → last_literal p ls ≡ Some l → q l.switch ≡ None → last_literal q ls ≡ Some l
  literal_up [] l h u = grind arith
  literal_up (k ∷ ls) l h u =
      let ih = literal_up ls l in
      let e1 = e k.switch in
      let m = broken_up ls in
      grind arith

  literal_against : (ls : List Literal) (l : Literal) → last_literal p ls ≡ Some l → q l.switch ≡ Some (not l.on) → all_broken q ls ≡ true
  literal_against [] l h u = grind arith
  literal_against (k ∷ ls) l h u =
      let ih = literal_against ls l in
      let e1 = e k.switch in
      let m = broken_up ls in
      grind arith

  switch_up : (vs : List ℕ) (odd : Bool) (l : Literal) → last_switch p odd vs ≡ Some l → q l.switch ≡ None → last_switch q odd vs ≡ Some l
  switch_up [] odd l h u = grind arith
  switch_up (v ∷ vs) odd l h u =
      let ih : (x : Bool) → last_switch p (xor odd x) vs ≡ Some l → last_switch q (xor odd x) vs ≡ Some l = λ x g. switch_up vs (xor odd x) l g u in
      let e1 = e v in
      let m = parity_up vs in
      grind arith

  switch_against : (vs : List ℕ) (odd : Bool) (l : Literal) → last_switch p odd vs ≡ Some l → q l.switch ≡ Some (not l.on) → parity_at q vs ≡ Some (not odd)
  switch_against [] odd l h u = grind arith
  switch_against (v ∷ vs) odd l h u =
      let ih : (x : Bool) → last_switch p (xor odd x) vs ≡ Some l → parity_at q vs ≡ Some (not (xor odd x)) = λ x g. switch_against vs (xor odd x) l g u in
      let e1 = e v in
      let m = parity_up vs in
      grind arith

  pub dead_up : (r : Constraint) → dead p r ≡ true → dead q r ≡ true
  dead_up (clause ls) h = broken_up ls h
  dead_up (parity vs side) h =
      let m = parity_up vs in
      grind arith

  pub says_up : (r : Constraint) (l : Literal) → says p r ≡ Some l → q l.switch ≡ None → says q r ≡ Some l
  says_up (clause ls) l h u = literal_up ls l h u
  says_up (parity vs side) l h u = switch_up vs (is_odd side) l h u

  pub says_against : (r : Constraint) (l : Literal) → says p r ≡ Some l → q l.switch ≡ Some (not l.on) → dead q r ≡ true
  says_against (clause ls) l h u = literal_against ls l h u
  says_against (parity vs side) l h u =
      let m = switch_against vs (is_odd side) l h u in
      grind arith

module _ (p : Part) where
  literal_unset : (ls : List Literal) (l : Literal) → last_literal p ls ≡ Some l → p l.switch ≡ None
  literal_unset [] l h = grind arith
  literal_unset (k ∷ ls) l h =
      let ih = literal_unset ls l in
      grind arith

  switch_unset : (vs : List ℕ) (odd : Bool) (l : Literal) → last_switch p odd vs ≡ Some l → p l.switch ≡ None
  switch_unset [] odd l h = grind arith
  switch_unset (v ∷ vs) odd l h =
      let ih : (x : Bool) → last_switch p (xor odd x) vs ≡ Some l → p l.switch ≡ None = λ x. switch_unset vs (xor odd x) l in
      grind arith

  -- what is forced was unset
  pub says_unset : (r : Constraint) (l : Literal) → says p r ≡ Some l → p l.switch ≡ None
  says_unset (clause ls) l h = literal_unset ls l h
  says_unset (parity vs side) l h = switch_unset vs (is_odd side) l h

  literal_own : (P : ℕ → Type 0) (ls : List Literal) (l : Literal) → last_literal p ls ≡ Some l → Each P (map switch_of ls) → P l.switch
  literal_own P [] l h o = grind arith
  literal_own P (k ∷ ls) l h o =
      let ih : last_literal p ls ≡ Some l → P l.switch = λ g. literal_own P ls l g o.1 in
      let here = o.0 in
      grind arith

  switch_own : (P : ℕ → Type 0) (vs : List ℕ) (odd : Bool) (l : Literal) → last_switch p odd vs ≡ Some l → Each P vs → P l.switch
  switch_own P [] odd l h o = grind arith
  switch_own P (v ∷ vs) odd l h o =
      let ih : (x : Bool) → last_switch p (xor odd x) vs ≡ Some l → P l.switch = λ x g. switch_own P vs (xor odd x) l g o.1 in
      let here = o.0 in
      grind arith

  -- what a rule forces is at one of its own switches
  pub says_own : (P : ℕ → Type 0) (r : Constraint) (l : Literal) → says p r ≡ Some l → Each P (switches r) → P l.switch
  says_own P (clause ls) l h o = literal_own P ls l h o
  says_own P (parity vs side) l h o = switch_own P vs (is_odd side) l h o

  broken_set : (w : ℕ) (ls : List Literal) → all_broken p ls ≡ true → Each (SetBut p w) (map switch_of ls)
  broken_set w [] h = tt
  broken_set w (l ∷ ls) h = (inr (grind arith), broken_set w ls (grind arith))

  parity_set : (w : ℕ) (vs : List ℕ) → is_some (parity_at p vs) ≡ true → Each (SetBut p w) vs
  parity_set w [] h = tt
  parity_set w (v ∷ vs) h = (inr (grind arith), parity_set w vs (grind arith))

  literal_alone : (ls : List Literal) (l : Literal) → last_literal p ls ≡ Some l → Each (SetBut p l.switch) (map switch_of ls)
  literal_alone [] l h = tt
  literal_alone (k ∷ ls) l h = by (literal_alone ls l) (broken p k) refl
    where
      by : (last_literal p ls ≡ Some l → Each (SetBut p l.switch) (map switch_of ls)) → (b : Bool) → broken p k ≡ b → Each (SetBut p l.switch) (map switch_of (k ∷ ls))
      by ih true e = (inr (grind arith), ih (grind arith))
      by ih false e = (inl (grind arith), broken_set l.switch ls (grind arith))

  switch_alone : (vs : List ℕ) (odd : Bool) (l : Literal) → last_switch p odd vs ≡ Some l → Each (SetBut p l.switch) vs
  switch_alone [] odd l h = tt
  switch_alone (v ∷ vs) odd l h = by (λ x. switch_alone vs (xor odd x) l) (p v) refl
    where
      by : ((x : Bool) → last_switch p (xor odd x) vs ≡ Some l → Each (SetBut p l.switch) vs) → (o : Option Bool) → p v ≡ o → Each (SetBut p l.switch) (v ∷ vs)
      by ih (Some x) e = (inr (grind arith), ih x (grind arith))
      by ih None e = (inl (grind arith), parity_set l.switch vs (grind arith))

  -- where a rule forces, all its other switches are set
  pub says_alone : (r : Constraint) (l : Literal) → says p r ≡ Some l → Each (SetBut p l.switch) (switches r)
  says_alone (clause ls) l h = literal_alone ls l h
  says_alone (parity vs side) l h = switch_alone vs (is_odd side) l h

  module _ (s : Setting) where
    broken_full : (ls : List Literal) → Each (λ v. p v ≡ Some (s v)) (map switch_of ls) → all_broken p ls ≡ not (some_kept s ls)
    broken_full [] h = refl
    broken_full (l ∷ ls) h =
        let ih = broken_full ls h.1 in
        let here = h.0 in
        grind arith

    parity_full : (vs : List ℕ) → Each (λ v. p v ≡ Some (s v)) vs → parity_at p vs ≡ Some (odd_on s vs)
    parity_full [] h = refl
    parity_full (v ∷ vs) h =
        let ih = parity_full vs h.1 in
        let here = h.0 in
        grind arith

    -- where a rule's switches are set as s has them, it is dead just where s breaks it
    pub dead_full : (r : Constraint) → Each (λ v. p v ≡ Some (s v)) (switches r) → dead p r ≡ not (kept s r)
    dead_full (clause ls) h = broken_full ls h
    dead_full (parity vs side) h =
        let m = parity_full vs h in
        grind arith

  pub clause_forces : (ls ms : List Literal) (l : Literal) → all_broken p ls ≡ true → all_broken p ms ≡ true → p l.switch ≡ None → last_literal p (ls ++ (l ∷ ms)) ≡ Some l
  clause_forces [] ms l a b u = grind arith
  clause_forces (k ∷ ls) ms l a b u =
      let ih : all_broken p ls ≡ true → last_literal p (ls ++ (l ∷ ms)) ≡ Some l = λ h. clause_forces ls ms l h b u in
      grind arith

  pub row_forces : (s : Setting) (vs ws : List ℕ) (v : ℕ) (odd : Bool) → Each (λ w. p w ≡ Some (s w)) vs → Each (λ w. p w ≡ Some (s w)) ws → p v ≡ None → same odd (odd_on s (vs ++ (v ∷ ws))) ≡ true → last_switch p odd (vs ++ (v ∷ ws)) ≡ Some (record { switch = v; on = s v })
  row_forces s [] ws v odd a b u k =
      let m = parity_full s ws b in
      let x : xor odd (odd_on s ws) ≡ s v = grind arith in
      grind arith
  row_forces s (w ∷ vs) ws v odd a b u k =
      let ih = row_forces s vs ws v (xor odd (s w)) a.1 b u in
      let here = a.0 in
      grind arith

-- at a full setting a rule is dead just where the setting breaks it
each_all : {X : Type 0} (P : X → Type 0) → ((x : X) → P x) → (xs : List X) → Each P xs
each_all P h [] = tt
each_all P h (x ∷ xs) = (h x, each_all P h xs)

pub full_dead : (s : Setting) (r : Constraint) → dead (full s) r ≡ not (kept s r)
full_dead s r = dead_full (full s) s r (each_all (λ v. full s v ≡ Some (s v)) (λ v. refl) (switches r))

pub dead_breaks : (p : Part) (r : Constraint) → dead p r ≡ true → (s : Setting) → Extends p (full s) → kept s r ≡ false
dead_breaks p r d s e =
    let up = dead_up p (full s) e r d in
    let f = full_dead s r in
    grind arith

-- a setting that has what is set and keeps the rule has what the rule forces
pub says_follows : (p : Part) (r : Constraint) (l : Literal) → says p r ≡ Some l → (s : Setting) → Extends p (full s) → kept s r ≡ true → s l.switch ≡ l.on
says_follows p r l h s e k =
    let against = says_against p (full s) e r l h in
    let f = full_dead s r in
    grind arith
