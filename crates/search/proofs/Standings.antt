-- What a search keeps true of its state, from its first forcing on.
use Rattle.std.proofs.Common.{◌≡◌, ℕ, zero, suc, ◌+◌, ◌<◌, ◌≤◌, true, false, not, ◌⊎◌, List, [], ◌∷◌, get_or, replicate, is_some, Some, None, Option, Ok, Err, Result, sym, refl, ap, ◌∙◌, subst, inl, inr, arith}
use mathlib.Core.Path.{fun_ext}
use mathlib.Core.Logic.{∥∥₁_elim, ∥∥₁_map}
use native.Mathlib.Bridge.{le_prop}
use Rattle.std.specs.Result.{is_ok}
use Rattle.std.proofs.lemmas.Bool.{cases_lt}
use Rattle.rules.specs.declared.literals.Literal.{Literal}
use Rattle.rules.specs.Settings.{Within}
use Rattle.rules.specs.Constraints.{Constraint, positive}
use Rattle.rules.specs.Rows.{Reduced}
use Rattle.search_theory.specs.Parts.{Part, blank, put}
use Rattle.search_theory.specs.Forcing.{any_dead, forced, Lies, Over}
use Rattle.search_theory.specs.Tries.{part, lowest, is_open, values, found, nothing, due, step, negative, start, more}
use Rattle.search_theory.proofs.Forcing.{ends_forced}
use Rattle.search_theory.proofs.Finding.{reduced_over}
use Rattle.search_theory.proofs.Stacks.{step_turn, step_try, lowest_open, part_still, reach_proper, stack_set, stack_room}
use Rattle.search.specs.declared.looking.Dead.{Dead}
use Rattle.search.specs.declared.values.Value.{Value}
use Rattle.search.specs.declared.values.Value.TheVariants.{Unset}
use Rattle.search.specs.declared.values.PartSetting.{PartSetting}
use Rattle.search.specs.declared.tries.Try.{Try}
use Rattle.search.specs.declared.tries.Tries.{Tries}
use Rattle.search.specs.declared.state.State.{State}
use Rattle.search.specs.Values.{view, part_of, upto, back, Puts}
use Rattle.search.specs.Moves.{Moves, Ends}
use Rattle.search.specs.Stacks.{no_try, stack, stack_of, LatestOff, Tops}
use Rattle.search.specs.States.{Reached, Standing, Ready}
use Rattle.search.proofs.Levels.{part_back, upto_back, upto_more}
use Rattle.search.proofs.Tables.{stack_length, turns, turns_none}
use Rattle.search.proofs.Opening.{open_lowest}
use Rattle.search.proofs.Propositions.{within_prop, value_set}

-- where forcing ends, in terms of the definition's forcing
ends_part : (n : ℕ) (rules : List Constraint) → Over n rules → (p q : Part) → Lies rules p q → (d : Result (Unit {0}) Dead) → Ends d rules q → (any_dead (forced n rules p) rules ≡ not (is_ok d)) × (d ≡ Ok tt → q ≡ forced n rules p)
ends_part n rules o p q lies (Err d) e =
    let a = ends_forced n rules o p q lies (inl e) in
    (sym a.dead ∙ e, λ h. absurd (cc))
ends_part n rules o p q lies (Ok u) e =
    let a = ends_forced n rules o p q lies (inr e.quiet) in
    (sym a.dead ∙ e.live, λ _. a.equal e.live)

-- what is known of tries that the search comes to
module _ (n : ℕ) (rules : List Constraint) where
  pub reached_within : (l : Literal) (ts : List Literal) → Reached n rules (l ∷ ts) → Within n l.switch
  reached_within l ts r = ∥∥₁_elim r (within_prop n l.switch) (λ k. (lowest_open n rules (part n rules ts) l.switch (reach_proper n rules k.0 (l ∷ ts) k.1).1).0)

  reached_unset : (l : Literal) (ts : List Literal) → Reached n rules (l ∷ ts) → part n rules ts l.switch ≡ None
  reached_unset l ts r = ∥∥₁_elim r (value_set (part n rules ts l.switch) None) (λ k. (lowest_open n rules (part n rules ts) l.switch (reach_proper n rules k.0 (l ∷ ts) k.1).1).1)

  pub reached_room : (l : Literal) (ts : List Try) (k : ℕ) → Reached n rules (l ∷ stack ts k) → k < n
  reached_room l ts k r =
      ∥∥₁_elim r le_prop (λ x.
      let p = reach_proper n rules x.0 (l ∷ stack ts k) x.1 in
      let room = stack_room n rules (stack ts k) l.switch p.2 p.1 in
      let e = stack_length ts k in
      omega arith)

  pub reached_count : (ts : List Try) (k : ℕ) → Reached n rules (stack ts k) → k ≤ n
  reached_count ts k r =
      ∥∥₁_elim r le_prop (λ x.
      let all = stack_set n rules (stack ts k) (reach_proper n rules x.0 (stack ts k) x.1) in
      let e = stack_length ts k in
      omega arith)

-- nothing set
blank_at : (m v : ℕ) → view (get_or (replicate m Unset) v Unset) ≡ None
blank_at zero v = refl
blank_at (suc m) zero = refl
blank_at (suc m) (suc v) = blank_at m v

-- the first forcing
module _ (n : ℕ) (rules : List Constraint) (o : Over n rules) (s t : PartSetting) (u : Tries) (d : Result (Unit {0}) Dead) (none : s.values ≡ replicate 256 Unset) (bottom : s.level ≡ 0) (moves : Moves rules s t) (ends : Ends d rules (part_of t)) where
  nothing_set : part_of s ≡ blank
  nothing_set = fun_ext by
    where
      by : (v : ℕ) → part_of s v ≡ None
      by zero = refl
      by (suc v) = ap (λ (vs : List Value). view (get_or vs v Unset)) none ∙ blank_at 256 v

  begin_top : upto s s.level ≡ part_of s
  begin_top = fun_ext by
    where
      by : (v : ℕ) → upto s s.level v ≡ part_of s v
      by zero = refl
      by (suc v) =
          let e : part_of s (suc v) ≡ None = ap (λ f. f (suc v)) nothing_set in
          grind arith

  pub begin_stands : u.count ≡ 0 → Standing n rules (record { part = t; tries = u; forced = d })
  begin_stands z =
      let f = ends_part n rules o blank (part_of t) (subst (λ p. Lies rules p (part_of t)) nothing_set moves.lies) d ends in
      let empty : stack_of u ≡ [] = ap (stack u.table) z in
      record {
        reached = subst (Reached n rules) (sym empty) ∣ (0, start) ∣₁;
        level = moves.level ∙ bottom ∙ sym z;
        below = λ i h. absurd (omega arith);
        top = subst (λ k. upto t k ≡ part_of t) (bottom ∙ sym z) (moves.top begin_top);
        ended = subst (λ ts. any_dead (part n rules ts) rules ≡ not (is_ok d)) (sym empty) f.0;
        live = λ e. subst (λ ts. part_of t ≡ part n rules ts) (sym empty) (f.1 e);
      }

-- the literal of a try set, and what it forces
module _ (n : ℕ) (rules : List Constraint) (o : Over n rules) (l : Literal) (s : State) (ready : Ready n rules l s) where
  abbrev before : List Literal
  before = stack s.tries.table s.part.level

  abbrev raised : PartSetting
  raised = record { values = s.part.values; levels = s.part.levels; level = s.part.level + 1 }

  was_unset : part_of s.part l.switch ≡ None
  was_unset = ap (λ f. f l.switch) ready.here ∙ reached_unset n rules l before ready.reached

  module _ (t u : PartSetting) (d : Result (Unit {0}) Dead) (puts : Puts l raised t) (moves : Moves rules t u) (ends : Ends d rules (part_of u)) where
    started : part_of t ≡ put (part n rules before) l
    started = puts.part ∙ ap (λ p. put p l) ready.here

    count_is : s.tries.count ≡ t.level
    count_is = ready.count ∙ sym puts.level

    follow_below : (i : ℕ) → i < s.tries.count → upto u i ≡ part n rules (stack s.tries.table i)
    follow_below i h =
        let count = ready.count in
        let level : t.level ≡ s.part.level + 1 = puts.level in
        moves.below i (omega arith) ∙ puts.below i (omega arith) was_unset ∙ by (cases_lt i s.part.level)
      where
        by : (i < s.part.level) ⊎ (s.part.level ≤ i) → upto s.part i ≡ part n rules (stack s.tries.table i)
        by (inl e) = ready.below i e
        by (inr e) =
            let count = ready.count in
            let same : s.part.level ≡ i = omega arith in
            subst (λ j. upto s.part j ≡ part n rules (stack s.tries.table j)) same (ready.top ∙ ready.here)

    pub follow_stands : Standing n rules (record { part = u; tries = s.tries; forced = d })
    follow_stands =
        let f = ends_part n rules o (put (part n rules before) l) (part_of u) (subst (λ p. Lies rules p (part_of u)) started moves.lies) d ends in
        let set : upto t (s.part.level + 1) ≡ part_of t = puts.top (upto_more s.part s.part.level (s.part.level + 1) (omega arith) ready.top) in
        record {
          reached = subst (Reached n rules) (sym ready.latest) ready.reached;
          level = moves.level ∙ sym count_is;
          below = follow_below;
          top = subst (λ j. upto u j ≡ part_of u) (sym count_is) (moves.top (subst (λ j. upto t j ≡ part_of t) (sym puts.level) set));
          ended = subst (λ ts. any_dead (part n rules ts) rules ≡ not (is_ok d)) (sym ready.latest) f.0;
          live = λ e. subst (λ ts. part_of u ≡ part n rules ts) (sym ready.latest) (f.1 e);
        }

-- what is next
module _ (n : ℕ) (rules : List Constraint) (s : State) (st : Standing n rules s) where
  module _ (d : not (is_ok s.forced) ≡ true) where
    pub next_turn : (i : ℕ) → LatestOff (Some i) s.tries → step n rules (stack_of s.tries) ≡ due (positive (get_or s.tries.table i no_try).switch ∷ stack s.tries.table i)
    next_turn i h = step_turn n rules (stack_of s.tries) (part n rules (stack_of s.tries)) (st.ended ∙ d) (Some (positive (get_or s.tries.table i no_try).switch ∷ stack s.tries.table i)) (turns s.tries i h)

    pub next_nothing : LatestOff None s.tries → step n rules (stack_of s.tries) ≡ nothing
    next_nothing h = step_turn n rules (stack_of s.tries) (part n rules (stack_of s.tries)) (st.ended ∙ d) None (turns_none s.tries h)

  module _ (d : s.forced ≡ Ok tt) (red : Reduced n rules) where
    live : any_dead (part n rules (stack_of s.tries)) rules ≡ false
    live = st.ended ∙ ap (λ r. not (is_ok r)) d

    low : (x : Option ℕ) → x ≡ lowest (λ v. not (is_some (part_of s.part v))) n → lowest (is_open rules (part n rules (stack_of s.tries))) n ≡ x
    low x e =
        open_lowest n rules red (part n rules (stack_of s.tries)) (part_still n rules (reduced_over n rules red) (stack_of s.tries) live).quiet x
        (sym (e ∙ ap (λ p. lowest (λ v. not (is_some (p v))) n) (st.live d)))

    pub next_add : (v : ℕ) → Some v ≡ lowest (λ v. not (is_some (part_of s.part v))) n → step n rules (stack_of s.tries) ≡ due (negative v ∷ stack_of s.tries)
    next_add v e = step_try n rules (stack_of s.tries) (part n rules (stack_of s.tries)) live (Some v) (low (Some v) e)

    pub next_found : None ≡ lowest (λ v. not (is_some (part_of s.part v))) n → step n rules (stack_of s.tries) ≡ found (values n (part_of s.part))
    next_found e = step_try n rules (stack_of s.tries) (part n rules (stack_of s.tries)) live None (low None e) ∙ ap (λ p. found (values n p)) (sym (st.live d))

-- making the try that is due
module _ (n : ℕ) (rules : List Constraint) (s : State) (st : Standing n rules s) where
  made_reached : (us : List Literal) → step n rules (stack_of s.tries) ≡ due us → Reached n rules us
  made_reached us e = ∥∥₁_map st.reached (λ x. (suc x.0, more x.1 e))

  pub made_room : (l : Literal) (k : ℕ) → step n rules (stack_of s.tries) ≡ due (l ∷ stack s.tries.table k) → n ≤ 256 → k < 256
  made_room l k e few = let room = reached_room n rules l s.tries.table k (made_reached (l ∷ stack s.tries.table k) e) in omega arith

  module _ (l : Literal) (t : PartSetting) (e : step n rules (stack_of s.tries) ≡ due (l ∷ stack s.tries.table t.level)) (u : Tries) (tops : Tops l t.level s.tries u) where
    ready_at : ((i : ℕ) → i < t.level → upto t i ≡ part n rules (stack s.tries.table i)) → part_of t ≡ part n rules (stack s.tries.table t.level) → upto t t.level ≡ part_of t
        → Ready n rules l (record { part = t; tries = u; forced = s.forced })
    ready_at below here top =
        let same = sym (tops.same t.level (omega arith)) in
        record {
          count = tops.count;
          latest = tops.latest ∙ ap (λ ts. l ∷ ts) same;
          reached = subst (λ ts. Reached n rules (l ∷ ts)) same (made_reached (l ∷ stack s.tries.table t.level) e);
          below = λ i h. below i h ∙ ap (part n rules) (sym (tops.same i (omega arith)));
          here = here ∙ ap (part n rules) same;
          top = top;
        }

  pub ready_off : (v : ℕ) → step n rules (stack_of s.tries) ≡ due (negative v ∷ stack_of s.tries) → s.forced ≡ Ok tt → (u : Tries) → Tops (negative v) s.tries.count s.tries u → Ready n rules (negative v) (record { part = s.part; tries = u; forced = s.forced })
  ready_off v e d u tops =
      let level = st.level in
      ready_at (negative v) s.part (subst (λ k. step n rules (stack_of s.tries) ≡ due (negative v ∷ stack s.tries.table k)) (sym st.level) e) u (subst (λ k. Tops (negative v) k s.tries u) (sym st.level) tops)
      (λ i h. st.below i (omega arith)) (subst (λ k. part_of s.part ≡ part n rules (stack s.tries.table k)) (sym st.level) (st.live d)) (subst (λ k. upto s.part k ≡ part_of s.part) (sym st.level) st.top)

  pub ready_on : (l : Literal) (k : ℕ) → step n rules (stack_of s.tries) ≡ due (l ∷ stack s.tries.table k) → k < s.tries.count → (u : Tries) → Tops l k s.tries u → Ready n rules l (record { part = back k s.part; tries = u; forced = s.forced })
  ready_on l k e h u tops =
      ready_at l (back k s.part) e u tops
      (λ i g. upto_back s.part k i (omega arith) ∙ st.below i (omega arith)) (part_back s.part k ∙ st.below k h)
      (upto_back s.part k k (omega arith) ∙ sym (part_back s.part k))
