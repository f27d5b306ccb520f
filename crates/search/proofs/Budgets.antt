-- Going on by a budget of tries.
use Rattle.std.proofs.Common.{◌≡◌, ℕ, ◌+◌, ◌<◌, Some, sym, ap, subst}
use Rattle.search_theory.specs.Tries.{Course, due, step}
use Rattle.search_theory.specs.Courses.{next_in}
use Rattle.search_theory.proofs.Courses.{Sofar, sofar_more}
use Rattle.search.specs.declared.search.Search.{Search}
use Rattle.search.specs.declared.system.System.{System}
use Rattle.search.specs.Moves.{rules_of}
use Rattle.search.specs.Stacks.{stack_of}
use Rattle.search.specs.Searches.{course_of}

-- from s to t the try that was due is made, within the budget
pub went_more : (system : System) (s t : Search) (budget tries : ℕ) (before : Course) → t.system ≡ system → tries < budget → course_of s ≡ due (stack_of t.state.tries)
    → Sofar (next_in system.switches (Some (rules_of system))) budget tries (course_of s) before → Sofar (next_in system.switches (Some (rules_of system))) budget (tries + 1) (course_of t) before
went_more system s t budget tries before same less follows so =
    let next = next_in system.switches (Some (rules_of system)) in
    subst (λ c. Sofar next budget (tries + 1) c before) (sym (ap (λ (x : System). step x.switches (rules_of x) (stack_of t.state.tries)) same))
    (sofar_more next budget tries (stack_of t.state.tries) before less (subst (λ c. Sofar next budget tries c before) follows so))
