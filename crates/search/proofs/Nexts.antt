-- What is next, as the code tells it.
use Rattle.std.proofs.Common.{◌≡◌, ℕ, true, not, is_some, Some, None, Option, Ok, Err, Result, sym, ap, subst}
use Rattle.std.specs.Option.{option_map, ok_or, unwrap_or}
use Rattle.std.specs.Result.{is_ok, result_err}
use Rattle.search_theory.specs.Tries.{lowest}
use Rattle.search.specs.declared.progress.End.{End}
use Rattle.search.specs.declared.progress.End.TheVariants.{Spent, Found, None as end_none}
use Rattle.search.specs.declared.search.Search.{Search}
use Rattle.search.specs.declared.searching.Due.{Due}
use Rattle.search.specs.declared.searching.Due.TheVariants.{Add, Turn}
use Rattle.search.specs.declared.system.System.{System}
use Rattle.search.specs.Values.{part_of}
use Rattle.search.specs.Moves.{rules_of}
use Rattle.search.specs.Stacks.{LatestOff}
use Rattle.search.specs.Ends.{end_of, Tells}
use Rattle.search.specs.Searches.{course_of, shown, Nexts}
use Rattle.search.proofs.Reduction.{reduced_of}
use Rattle.search.proofs.Standing.{standing_of}
use Rattle.search.proofs.Standings.{next_turn, next_nothing, next_add, next_found}
use Rattle.search.proofs.Endings.{tells}

module _ (s : Search) where
  -- where a rule is dead, and where none is
  pub nexts_dead : not (is_ok s.state.forced) ≡ true → (o : Option ℕ) → LatestOff o s.state.tries → Nexts (ok_or (option_map Turn o) end_none) s
  nexts_dead d (Some i) h = record { fits = h.0; follows = next_turn s.system.switches (rules_of s.system) s.state (standing_of s) d i h }
  nexts_dead d None h = next_nothing s.system.switches (rules_of s.system) s.state (standing_of s) d h

  pub nexts_live : s.state.forced ≡ Ok tt → (o : Option ℕ) → o ≡ lowest (λ v. not (is_some (part_of s.state.part v))) s.system.switches → Nexts (ok_or (option_map Add o) (Found tt)) s
  nexts_live d (Some v) h = record { fits = d; follows = next_add s.system.switches (rules_of s.system) s.state (standing_of s) d (reduced_of s.system) v h }
  nexts_live d None h = next_found s.system.switches (rules_of s.system) s.state (standing_of s) d (reduced_of s.system) h

  -- the end that is next, or else that a try is due
  pub nexts_end : (e : End (Unit {0})) → Nexts (Err e) s → e ≡ end_of (course_of s)
  nexts_end Spent h = absurd h
  nexts_end (Found x) h = sym (ap end_of h)
  nexts_end end_none h = sym (ap end_of h)

  pub nexts_told : (r : Result Due (End (Unit {0}))) → Nexts r s → unwrap_or (result_err r) Spent ≡ end_of (course_of s)
  nexts_told (Ok d) h = sym (ap end_of h.follows)
  nexts_told (Err e) h = nexts_end e h

  pub told_right : (system : System) (e : End (Unit {0})) → s.system ≡ system → e ≡ end_of (course_of s) → Tells e system.switches (rules_of system) (shown s) (course_of s)
  told_right system e same is =
      subst (λ (x : System). Tells e x.switches (rules_of x) (shown s) (course_of s)) same (tells s.system.switches (rules_of s.system) (reduced_of s.system) s.state (standing_of s) e is)
