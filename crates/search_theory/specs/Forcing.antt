-- What rules force at a part-setting, and forcing until nothing is forced.
use Rattle.std.specs.Prelude.{◌≡◌, ℕ, zero, suc, Bool, true, false, cond, not, ◌&&◌, ◌||◌, ◌⊎◌, List, [], ◌∷◌, is_some, Some, None, Option}
use Rattle.std.specs.Option.{option_or, option_map}
use Rattle.std.specs.Bool.{then_some}
use Rattle.rules.specs.declared.literals.Literal.{Literal}
use Rattle.rules.specs.First.{every}
use Rattle.rules.specs.Settings.{Within}
use Rattle.rules.specs.Constraints.{Constraint, clause, parity, xor, is_odd, switches, Each, SomeOf}
use Rattle.search_theory.specs.Parts.{Part, put, Extends, maybe}

-- a literal is broken when its switch is set to the other value
abbrev pub broken : Part → Literal → Bool
broken p l = maybe (p l.switch) false (xor l.on)

-- every literal is broken
abbrev pub all_broken : Part → List Literal → Bool
all_broken p ls = every (broken p) ls

-- the one literal that is not broken, where it is unset
abbrev pub last_literal : Part → List Literal → Option Literal
last_literal p [] = None
last_literal p (l ∷ ls) = cond (broken p l) (last_literal p ls) (then_some (not (is_some (p l.switch)) && all_broken p ls) l)

-- the sum of two values, where both are set
abbrev pub sum : Option Bool → Option Bool → Option Bool
sum None y = None
sum (Some x) None = None
sum (Some x) (Some y) = Some (xor x y)

-- whether an odd number of the switches is on, where all of them are set
abbrev pub parity_at : Part → List ℕ → Option Bool
parity_at p [] = Some false
parity_at p (v ∷ vs) = sum (p v) (parity_at p vs)

-- the one unset switch, with the value at which the number of those on is odd, or else even
abbrev pub last_switch : Part → Bool → List ℕ → Option Literal
last_switch p odd [] = None
last_switch p odd (v ∷ vs) =
    maybe (p v) (option_map (λ y. record { switch = v; on = xor odd y }) (parity_at p vs)) (λ x. last_switch p (xor odd x) vs)

-- the literal that the rule forces
abbrev pub says : Part → Constraint → Option Literal
says p (clause ls) = last_literal p ls
says p (parity vs side) = last_switch p (is_odd side) vs

-- a clause is dead when all its literals are broken, a parity rule when all its switches are set and it is not kept
abbrev pub dead : Part → Constraint → Bool
dead p (clause ls) = all_broken p ls
dead p (parity vs side) = maybe (parity_at p vs) false (xor (is_odd side))

-- some rule of the system is dead: so is the part-setting
abbrev pub any_dead : Part → List Constraint → Bool
any_dead p [] = false
any_dead p (r ∷ rs) = dead p r || any_dead p rs

-- the first literal that a rule of the system forces
abbrev pub said : Part → List Constraint → Option Literal
said p [] = None
said p (r ∷ rs) = option_or (says p r) (said p rs)

-- at most k times: set what is forced, while nothing is dead
abbrev pub force : ℕ → List Constraint → Part → Part
force zero system p = p
force (suc k) system p = maybe (cond (any_dead p system) None (said p system)) p (λ l. force k system (put p l))

-- where forcing from p ends; n times and once more is enough for n switches
abbrev pub forced : ℕ → List Constraint → Part → Part
forced n system p = force (suc n) system p

-- nothing is dead and nothing is forced
pub record Still (system : List Constraint) (p : Part) : Type 0 where
  pub live : any_dead p system ≡ false
  pub quiet : said p system ≡ None

-- q has all that p has, and nothing but what every still part-setting above p has
pub record Lies (system : List Constraint) (p q : Part) : Type 0 where
  pub above : Extends p q
  pub below : (a : Part) → Still system a → Extends p a → Extends q a

-- forcing goes no further
abbrev pub Ended : List Constraint → Part → Type 0
Ended system p = (any_dead p system ≡ true) ⊎ (said p system ≡ None)

-- both are dead, or they are equal and neither is
pub record Alike (system : List Constraint) (p q : Part) : Type 0 where
  pub dead : any_dead p system ≡ any_dead q system
  pub equal : any_dead p system ≡ false → p ≡ q

-- some rule forces l
abbrev pub Forces : List Constraint → Part → Literal → Type 0
Forces system p l = SomeOf (λ r. says p r ≡ Some l) system

-- q is reached from p by single steps, each of which sets what some rule forces where nothing is dead
pub data Steps (system : List Constraint) : Part → Part → Type 0 where
  halt : {p : Part} → Steps system p p
  then : {p q : Part} (l : Literal) → any_dead p system ≡ false → Forces system p l → Steps system (put p l) q → Steps system p q

-- every rule is over the n switches
abbrev pub Over : ℕ → List Constraint → Type 0
Over n system = Each (λ r. Each (Within n) (switches r)) system
