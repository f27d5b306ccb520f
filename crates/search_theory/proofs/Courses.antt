-- The course of a search: what it tells, and going on for so many tries.
use Rattle.std.proofs.Common.{◌≡◌, ℕ, zero, suc, ◌+◌, ◌-◌, ◌<◌, ◌≤◌, true, false, List, [], Some, sym, refl, ap, ◌∙◌, subst, arith}
use Rattle.rules.specs.declared.literals.Literal.{Literal}
use Rattle.rules.specs.Constraints.{Constraint}
use Rattle.rules.specs.Rows.{Reduced}
use Rattle.search_theory.specs.Tries.{Course, found, nothing, due, step, Reach, start, more, limit}
use Rattle.search_theory.specs.Courses.{onward, tries, after, made, has_ended}
use Rattle.search_theory.specs.Theorems.{Told}
use Rattle.search_theory.proofs.Passing.{nothing_keeps}
use Rattle.search_theory.proofs.Finding.{found_right}
use Rattle.search_theory.proofs.Bounds.{reach_most, due_fewer}

module _ (next : List Literal → Course) where
  pub ended_stays : (b : ℕ) (c : Course) → has_ended c ≡ true → (onward next b c ≡ c) × (tries next b c ≡ 0)
  ended_stays b (found s) h = (refl, refl)
  ended_stays b nothing h = (refl, refl)
  ended_stays b (due ts) h = let z : ◌≡◌ {A = ℕ} 0 1 = cc in absurd (omega arith)

  pub no_tries : (c : Course) → (onward next 0 c ≡ c) × (tries next 0 c ≡ 0)
  no_tries (found s) = (refl, refl)
  no_tries nothing = (refl, refl)
  no_tries (due ts) = (refl, refl)

  onward_join : (a b u : ℕ) → a + b ≡ u → (c : Course) → onward next b (onward next a c) ≡ onward next u c
  onward_join a b u e (found s) = refl
  onward_join a b u e nothing = refl
  onward_join zero b u e (due ts) = ap (λ k. onward next k (due ts)) (omega arith)
  onward_join (suc a) b zero e (due ts) = absurd (omega arith)
  onward_join (suc a) b (suc u) e (due ts) = onward_join a b u (omega arith) (next ts)

  pub courses_join : (a b : ℕ) (c : Course) → onward next b (onward next a c) ≡ onward next (a + b) c
  courses_join a b c = onward_join a b (a + b) refl c

  tries_join : (a b u : ℕ) → a + b ≡ u → (c : Course) → tries next a c + tries next b (onward next a c) ≡ tries next u c
  tries_join a b u e (found s) = refl
  tries_join a b u e nothing = refl
  tries_join zero b u e (due ts) = let same : tries next b (due ts) ≡ tries next u (due ts) = ap (λ k. tries next k (due ts)) (omega arith) in omega arith
  tries_join (suc a) b zero e (due ts) = absurd (omega arith)
  tries_join (suc a) b (suc u) e (due ts) = let ih = tries_join a b u (omega arith) (next ts) in omega arith

  pub tries_add : (a b : ℕ) (c : Course) → tries next a c + tries next b (onward next a c) ≡ tries next (a + b) c
  tries_add a b c = tries_join a b (a + b) refl c

  pub within_budget : (b : ℕ) (c : Course) → tries next b c ≤ b
  within_budget b (found s) = omega arith
  within_budget b nothing = omega arith
  within_budget zero (due ts) = omega arith
  within_budget (suc b) (due ts) = let ih = within_budget b (next ts) in omega arith

  pub all_made : (b : ℕ) (c : Course) → has_ended (onward next b c) ≡ false → tries next b c ≡ b
  all_made b (found s) h = let z : ◌≡◌ {A = ℕ} 0 1 = cc in absurd (omega arith)
  all_made b nothing h = let z : ◌≡◌ {A = ℕ} 0 1 = cc in absurd (omega arith)
  all_made zero (due ts) h = refl
  all_made (suc b) (due ts) h = ap suc (all_made b (next ts) h)

-- a course with the stack that it follows, at which the search stands once k tries are made
pub record Traced (n : ℕ) (system : List Constraint) (k : ℕ) (c : Course) : Type 0 where
  pub stack : List Literal
  pub reach : Reach n system k stack
  pub here : step n system stack ≡ c

module _ (n : ℕ) (system : List Constraint) where
  traced_on : (b k u : ℕ) (c : Course) → k + tries (step n system) b c ≡ u → Traced n system k c → Traced n system u (onward (step n system) b c)
  traced_on b k u (found s) e t = subst (λ j. Traced n system j (found s)) (omega arith) t
  traced_on b k u nothing e t = subst (λ j. Traced n system j nothing) (omega arith) t
  traced_on zero k u (due ts) e t = subst (λ j. Traced n system j (due ts)) (omega arith) t
  traced_on (suc b) k u (due ts) e t =
      traced_on b (suc k) u (step n system ts) (omega arith) (record { stack = ts; reach = more t.reach t.here; here = refl })

  pub traced : (t : ℕ) → Traced n system (made n (Some system) t) (after n (Some system) t)
  traced t = traced_on t 0 (made n (Some system) t) (step n system []) (omega arith) (record { stack = []; reach = start; here = refl })

  pub made_most : (t : ℕ) → made n (Some system) t ≤ limit n system
  made_most t = let c = traced t in reach_most n system (made n (Some system) t) c.stack c.reach

  pub ends : (t : ℕ) → limit n system ≤ t → has_ended (after n (Some system) t) ≡ true
  ends t l = by (after n (Some system) t) (all_made (step n system) t (step n system [])) (traced t)
    where
      by : (c : Course) → (has_ended c ≡ false → made n (Some system) t ≡ t) → Traced n system (made n (Some system) t) c → has_ended c ≡ true
      by (found s) e c = refl
      by nothing e c = refl
      by (due us) e c =
          let less = due_fewer n system (made n (Some system) t) c.stack us c.reach c.here in
          let all = e refl in
          absurd (omega arith)

  told_by : Reduced n system → (t k : ℕ) (c : Course) → (has_ended c ≡ false → k ≡ t) → Traced n system k c → Told n system t c
  told_by red t k (found s) e c = let f = found_right n k system c.stack red c.reach s c.here in (f.long, f.earliest)
  told_by red t k nothing e c = λ s keeps. nothing_keeps n system s keeps k c.stack c.reach c.here
  told_by red t k (due us) e c =
      let less = due_fewer n system k c.stack us c.reach c.here in
      let all = e refl in
      omega arith

  pub tells : Reduced n system → (t : ℕ) → Told n system t (after n (Some system) t)
  tells red t = told_by red t (made n (Some system) t) (after n (Some system) t) (all_made (step n system) t (step n system [])) (traced t)

-- a search that began at c and is at d, with `done` tries of b made
module _ (next : List Literal → Course) (b done : ℕ) (d c : Course) where
  abbrev pub Sofar : Type 0
  Sofar = (onward next (b - done) d ≡ onward next b c) × (done + tries next (b - done) d ≡ tries next b c)

  sofar_at : (u : ℕ) → b - done ≡ u → Sofar → (onward next u d ≡ onward next b c) × (done + tries next u d ≡ tries next b c)
  sofar_at u e s = subst (λ k. (onward next k d ≡ onward next b c) × (done + tries next k d ≡ tries next b c)) e s

  pub sofar_ended : has_ended d ≡ true → Sofar → (d ≡ onward next b c) × (done ≡ tries next b c)
  sofar_ended h s = let n = ended_stays next (b - done) d h in (sym n.0 ∙ s.0, omega (arith, n.1, s.1))

  pub sofar_all : b ≤ done → Sofar → (d ≡ onward next b c) × (done ≡ tries next b c)
  sofar_all l s = let z = no_tries next d in let t = sofar_at 0 (omega arith) s in (sym z.0 ∙ t.0, omega (arith, z.1, t.1))

pub sofar_none : (next : List Literal → Course) (b : ℕ) (c : Course) → Sofar next b 0 c c
sofar_none next b c =
    let e : b - 0 ≡ b = omega arith in
    let same : tries next (b - 0) c ≡ tries next b c = ap (λ k. tries next k c) e in
    (ap (λ k. onward next k c) e, omega arith)

pub sofar_more : (next : List Literal → Course) (b done : ℕ) (ts : List Literal) (c : Course) → done < b → Sofar next b done (due ts) c → Sofar next b (done + 1) (next ts) c
sofar_more next b done ts c l s =
    let t = sofar_at next b done (due ts) c (suc (b - (done + 1))) (omega arith) s in
    (t.0, omega (arith, t.1))
