-- Settings that a search has found.
use Rattle.std.proofs.Common.{◌≡◌, ℕ, ◌+◌, ◌<◌, Bool, false, List, [], ◌∷◌, ◌++◌, length, take, set, unwrap_or, Some, sym, refl, ap, ◌∙◌, subst, add-one}
use Rattle.std.proofs.lemmas.List.FromFn.{length-map-range_with_len}
use Rattle.rules.specs.declared.literals.Literal.{Literal}
use Rattle.std.proofs.lemmas.List.{take_more, take_more_set}
use Rattle.rules.specs.Constraints.{Constraint}
use Rattle.rules.specs.Settings.{Within, setting}
use Rattle.search_theory.specs.Tries.{part, Course, found, nothing, due, step}
use Rattle.search_theory.proofs.Stacks.{Follows, finished, step_follows}
use Rattle.search.specs.declared.progress.End.{End}
use Rattle.search.specs.declared.search.Search.{Search}
use Rattle.search.specs.Maps.{SameEnd}
use Rattle.search.specs.Ends.{end_of}
use Rattle.search.specs.Moves.{rules_of}
use Rattle.search.specs.Stacks.{stack_of}
use Rattle.search.specs.Searches.{course_of, shown}
use Rattle.search.proofs.Standing.{standing_of}
use Rattle.search.proofs.Reduction.{reduced_of}
use Rattle.search.proofs.Endings.{found_value}
use Rattle.session_theory.specs.Session as theory
use Rattle.session.specs.declared.ends.Setting.{Setting}
use Rattle.session.specs.Ends.{values_in, end_in}

-- it has a value for each switch
pub found_long : (s : Search) (vs : List Bool) → course_of s ≡ found vs → length vs ≡ s.system.switches
found_long s vs e = long s.system.switches (rules_of s.system) (stack_of s.state.tries) e
  where
    long : (n : ℕ) (rules : List Constraint) (ts : List Literal) → step n rules ts ≡ found vs → length vs ≡ n
    long n rules ts e = by (step_follows n rules ts (part n rules ts) (found vs) e)
      where
        by : Follows n rules ts (part n rules ts) (found vs) → length vs ≡ n
        by (finished d l is) = ap length (sym is) ∙ length-map-range_with_len (λ v. unwrap_or (part n rules ts v) false) 1 n

-- the end that is told, where R relates what was found to a setting of the values found
pub same_end_in :
    (c : Course) (R : Unit {0} → Setting → Type 0) (e : End (Unit {0})) (r : End Setting) → e ≡ end_of c → SameEnd R e r →
    ((x : Setting) → R tt x → (vs : List Bool) → c ≡ found vs → values_in x ≡ vs) → end_in r ≡ theory.end_at c
same_end_in (found vs) R e r is same finds =
    let s = subst (λ x. SameEnd R x r) is same in ap end_in s.1 ∙ ap theory.found (finds s.0 s.2 vs refl)
same_end_in nothing R e r is same finds = ap end_in (subst (λ x. SameEnd R x r) is same)
same_end_in (due ts) R e r is same finds = ap end_in (subst (λ x. SameEnd R x r) is same)

-- what it shows of a switch is the value of the switch
pub found_shown : (s : Search) (vs : List Bool) (v : ℕ) → course_of s ≡ found vs → Within s.system.switches v → shown s v ≡ Some (setting vs v)
found_shown s vs v e within =
    found_value s.system.switches (rules_of s.system) (reduced_of s.system) s.state (standing_of s) vs e v within

-- one more value, written to its place
pub values_more : (vs out : List Bool) (i : ℕ) (b : Bool) → i < length vs → i < length out → b ≡ setting vs (i + 1) → take i out ≡ take i vs → take (i + 1) (set out i b) ≡ take (i + 1) vs
values_more vs out i b lt room is same =
    take_more_set out i b room ∙ ap (λ l. l ++ b ∷ []) same ∙ ap (λ x. take i vs ++ x ∷ []) (is ∙ ap (setting vs) (add-one i)) ∙ sym (take_more vs i false lt)
