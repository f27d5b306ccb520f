-- Forcing lies between its start and every still part-setting above it, and comes to an end.
use Rattle.std.proofs.Common.{◌≡◌, ℕ, zero, suc, ◌<◌, Bool, true, false, cond, not, ◌⊎◌, ◌↔◌, List, [], ◌∷◌, is_some, Some, None, Option, sym, refl, ◌∙◌, inl, inr, arith}
use mathlib.Core.Path.{fun_ext}
use Rattle.std.specs.Option.{option_or}
use Rattle.rules.specs.declared.literals.Literal.{Literal}
use Rattle.rules.specs.Settings.{Setting, Within}
use Rattle.rules.specs.Constraints.{Constraint, Each, Keeps, switches}
use Rattle.search_theory.specs.Parts.{Part, full, put, Extends, unset, maybe}
use Rattle.search_theory.specs.Forcing.{says, dead, any_dead, said, force, forced, Still, Lies, Ended, Alike, Forces, Steps, halt, then, Over}
use Rattle.search_theory.proofs.Rules.{dead_up, says_up, says_against, says_unset, says_own, full_dead}
use Rattle.search_theory.proofs.Switches.{unset_put, tally_most}

pub extends_trans : (p q r : Part) → Extends p q → Extends q r → Extends p r
extends_trans p q r e f v b h = f v b (e v b h)

pub extends_put : (p : Part) (l : Literal) → p l.switch ≡ None → Extends p (put p l)
extends_put p l u v b h = grind arith

pub put_extends : (p a : Part) (l : Literal) → Extends p a → a l.switch ≡ Some l.on → Extends (put p l) a
put_extends p a l e h v b k =
    let e1 = e v b in
    grind arith

pub put_has : (p : Part) (l : Literal) → put p l l.switch ≡ Some l.on
put_has p l = grind arith

-- two part-settings that extend each other are equal
pub extends_both : (p q : Part) → Extends p q → Extends q p → p ≡ q
extends_both p q e f = fun_ext by
  where
    by : (v : ℕ) → p v ≡ q v
    by v =
        let e1 = e v in
        let f1 = f v in
        grind arith

pub any_dead_up : (p a : Part) → Extends p a → (system : List Constraint) → any_dead p system ≡ true → any_dead a system ≡ true
any_dead_up p a e [] h = h
any_dead_up p a e (r ∷ rs) h =
    let ih = any_dead_up p a e rs in
    let m = dead_up p a e r in
    grind arith

pub still_first : (r : Constraint) (rs : List Constraint) (a : Part) → Still (r ∷ rs) a → (dead a r ≡ false) × (says a r ≡ None)
still_first r rs a s =
    let live = s.live in
    let quiet = s.quiet in
    (grind arith, grind arith)

pub still_rest : (r : Constraint) (rs : List Constraint) (a : Part) → Still (r ∷ rs) a → Still rs a
still_rest r rs a s =
    let live = s.live in
    let quiet = s.quiet in
    record { live = grind arith; quiet = grind arith }

-- what a rule forces at p is so above p where that rule is still
pub still_says : (p a : Part) → Extends p a → (r : Constraint) → dead a r ≡ false → says a r ≡ None → (l : Literal) → says p r ≡ Some l → a l.switch ≡ Some l.on
still_says p a e r d q l h =
    let m = says_up p a e r l h in
    let g = says_against p a e r l h in
    grind arith

pub still_forces : (p a : Part) → Extends p a → (system : List Constraint) → Still system a → (l : Literal) → Forces system p l → a l.switch ≡ Some l.on
still_forces p a e [] s l h = absurd h
still_forces p a e (r ∷ rs) s l (inl h) = let f = still_first r rs a s in still_says p a e r f.0 f.1 l h
still_forces p a e (r ∷ rs) s l (inr h) = still_forces p a e rs (still_rest r rs a s) l h

-- what is said is what the first rule that forces forces
pub said_forces : (p : Part) (system : List Constraint) (l : Literal) → said p system ≡ Some l → Forces system p l
said_forces p [] l h = let z : ◌≡◌ {A = ℕ} 0 1 = cc in absurd (omega arith)
said_forces p (r ∷ rs) l h = by (said_forces p rs l) (says p r) refl h
  where
    by : (said p rs ≡ Some l → Forces rs p l) → (x : Option Literal) → says p r ≡ x → option_or x (said p rs) ≡ Some l → (says p r ≡ Some l) ⊎ Forces rs p l
    by ih None e g = inr (ih g)
    by ih (Some m) e g = inl (e ∙ g)

pub forces_unset : (p : Part) (system : List Constraint) (l : Literal) → Forces system p l → p l.switch ≡ None
forces_unset p [] l h = absurd h
forces_unset p (r ∷ rs) l (inl h) = says_unset p r l h
forces_unset p (r ∷ rs) l (inr h) = forces_unset p rs l h

pub forces_own : (P : ℕ → Type 0) (p : Part) (system : List Constraint) → Each (λ r. Each P (switches r)) system → (l : Literal) → Forces system p l → P l.switch
forces_own P p [] o l h = absurd h
forces_own P p (r ∷ rs) o l (inl h) = says_own p P r l h o.0
forces_own P p (r ∷ rs) o l (inr h) = forces_own P p rs o.1 l h

pub quiet_forces : (p : Part) (system : List Constraint) → said p system ≡ None → (l : Literal) → Forces system p l → ⊥
quiet_forces p [] h l f = f
quiet_forces p (r ∷ rs) h l (inl e) = let z : ◌≡◌ {A = ℕ} 0 1 = grind arith in omega arith
quiet_forces p (r ∷ rs) h l (inr f) = quiet_forces p rs (grind arith) l f

none_quiet : (p : Part) (system : List Constraint) → ((l : Literal) → Forces system p l → ⊥) → (x : Option Literal) → said p system ≡ x → x ≡ None
none_quiet p system f None e = refl
none_quiet p system f (Some l) e = absurd (f l (said_forces p system l e))

pub quiet_none : (p : Part) (system : List Constraint) → (said p system ≡ None) ↔ ((l : Literal) → Forces system p l → ⊥)
quiet_none p system = (quiet_forces p system, λ f. none_quiet p system f (said p system) refl)

-- the invariant of forcing
pub lies_none : (system : List Constraint) (p : Part) → Lies system p p
lies_none system p = record { above = λ v b h. h; below = λ a s e. e }

pub lies_trans : (system : List Constraint) (p q r : Part) → Lies system p q → Lies system q r → Lies system p r
lies_trans system p q r l m =
    record { above = extends_trans p q r l.above m.above; below = λ a s e. m.below a s (l.below a s e) }

pub lies_more : (system : List Constraint) (p q : Part) (l : Literal) → Lies system p q → q l.switch ≡ None → ((a : Part) → Still system a → Extends q a → a l.switch ≡ Some l.on) → Lies system p (put q l)
lies_more system p q l lies u f =
    record {
      above = extends_trans p q (put q l) lies.above (extends_put q l u);
      below = λ a s e. put_extends q a l (lies.below a s e) (f a s (lies.below a s e));
    }

pub lies_forces : (system : List Constraint) (p q : Part) (l : Literal) → Lies system p q → Forces system q l → Lies system p (put q l)
lies_forces system p q l lies f = lies_more system p q l lies (forces_unset q system l f) (λ a s e. still_forces q a e system s l f)

pub steps_lie : (system : List Constraint) (p q : Part) → Steps system p q → Lies system p q
steps_lie system p q halt = lies_none system p
steps_lie system p q (then l d f s) = lies_trans system p (put p l) q (lies_forces system p p l (lies_none system p) f) (steps_lie system (put p l) q s)

pub force_steps : (k : ℕ) (system : List Constraint) (p : Part) → Steps system p (force k system p)
force_steps zero system p = halt
force_steps (suc k) system p = by (force_steps k system) (any_dead p system) refl (said p system) refl
  where
    by : ((p : Part) → Steps system p (force k system p)) → (d : Bool) → any_dead p system ≡ d → (x : Option Literal) → said p system ≡ x → Steps system p (maybe (cond d None x) p (λ l. force k system (put p l)))
    by ih true f x e = halt
    by ih false f None e = halt
    by ih false f (Some l) e = then l f (said_forces p system l e) (ih (put p l))

pub forced_lies : (n : ℕ) (system : List Constraint) (p : Part) → Lies system p (forced n system p)
forced_lies n system p = steps_lie system p (forced n system p) (force_steps (suc n) system p)

-- with more fuel than switches are unset, forcing ends
force_ends : (n : ℕ) (system : List Constraint) → Over n system → (k : ℕ) (p : Part) → unset n p < k → Ended system (force k system p)
force_ends n system o zero p h = absurd (omega arith)
force_ends n system o (suc k) p h = by (force_ends n system o k) (any_dead p system) refl (said p system) refl
  where
    by : ((p : Part) → unset n p < k → Ended system (force k system p)) → (d : Bool) → any_dead p system ≡ d → (x : Option Literal) → said p system ≡ x → Ended system (maybe (cond d None x) p (λ l. force k system (put p l)))
    by ih true f x e = inl f
    by ih false f None e = inr e
    by ih false f (Some l) e =
        let g = said_forces p system l e in
        let less = unset_put n p l (forces_unset p system l g) (forces_own (Within n) p system o l g) in
        ih (put p l) (omega arith)

pub forced_ends : (n : ℕ) (system : List Constraint) → Over n system → (p : Part) → Ended system (forced n system p)
forced_ends n system o p =
    let most = tally_most (λ v. not (is_some (p v))) n in
    force_ends n system o (suc n) p (omega arith)

pub ended_still : (system : List Constraint) (p : Part) → any_dead p system ≡ false → Ended system p → Still system p
ended_still system p d (inl h) = let z : ◌≡◌ {A = ℕ} 0 1 = cc in absurd (omega arith)
ended_still system p d (inr h) = record { live = d; quiet = h }

-- two ends of forcing from one start, the first of them not dead
live_end : (system : List Constraint) (p a b : Part) → Lies system p a → Still system a → Lies system p b → Ended system b → (any_dead b system ≡ false) × (a ≡ b)
live_end system p a b la sa lb eb =
    let ba = lb.below a sa la.above in
    let da = sa.live in
    let db : any_dead b system ≡ false = (let m = any_dead_up b a ba system in grind arith) in
    let ab = la.below b (ended_still system b db eb) lb.above in
    (db, extends_both a b ab ba)

pub ends_alike : (system : List Constraint) (p a b : Part) → Lies system p a → Ended system a → Lies system p b → Ended system b → Alike system a b
ends_alike system p a b la ea lb eb = by (any_dead a system) refl (any_dead b system) refl
  where
    by : (c : Bool) → any_dead a system ≡ c → (d : Bool) → any_dead b system ≡ d → Alike system a b
    by false f d g =
        let h = live_end system p a b la (ended_still system a f ea) lb eb in
        record { dead = f ∙ sym h.0; equal = λ _. h.1 }
    by true f true g = record { dead = f ∙ sym g; equal = λ h. let z : ◌≡◌ {A = ℕ} 0 1 = cc in absurd (omega arith) }
    by true f false g =
        let h = (live_end system p b a lb (ended_still system b g eb) la ea).0 in
        let z : ◌≡◌ {A = ℕ} 0 1 = cc in absurd (omega arith)

pub runs_alike : (system : List Constraint) (p a b : Part) → Steps system p a → Ended system a → Steps system p b → Ended system b → Alike system a b
runs_alike system p a b sa ea sb eb = ends_alike system p a b (steps_lie system p a sa) ea (steps_lie system p b sb) eb

-- a forcing that goes its own way comes to the same end
pub ends_forced : (n : ℕ) (system : List Constraint) → Over n system → (p q : Part) → Lies system p q → Ended system q → Alike system q (forced n system p)
ends_forced n system o p q l e = ends_alike system p q (forced n system p) l e (forced_lies n system p) (forced_ends n system o p)

-- a setting that keeps all rules is still
full_quiet : (s : Setting) (r : Constraint) (x : Option Literal) → says (full s) r ≡ x → x ≡ None
full_quiet s r None e = refl
full_quiet s r (Some l) e = let u = says_unset (full s) r l e in let z : ◌≡◌ {A = ℕ} 0 1 = cc in absurd (omega arith)

pub keeping_still : (s : Setting) (system : List Constraint) → Keeps system s → Still system (full s)
keeping_still s [] k = record { live = refl; quiet = refl }
keeping_still s (r ∷ rs) k =
    let ih = keeping_still s rs k.1 in
    let live = ih.live in
    let quiet = ih.quiet in
    let here = k.0 in
    let d = full_dead s r in
    let q = full_quiet s r (says (full s) r) refl in
    record { live = grind arith; quiet = grind arith }
