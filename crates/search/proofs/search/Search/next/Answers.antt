use Rattle.std.proofs.Common.{◌≡◌, not, Option, Result, sym, ap, ◌∙◌, subst, arith, rules}
use Rattle.std.specs.Option.{option_map, ok_or}
use Rattle.std.specs.Result.{is_ok}
use Rattle.search.specs.declared.looking.Dead.{Dead}
use Rattle.search.specs.declared.progress.End.{End}
use Rattle.search.specs.declared.progress.End.TheVariants.{Found, None as end_none}
use Rattle.search.specs.declared.searching.Due.{Due}
use Rattle.search.specs.declared.searching.Due.TheVariants.{Add, Turn}
use Rattle.search.specs.Moves.{rules_of}
use Rattle.search.specs.Searches.{Nexts}
use Rattle.search.proofs.Standing.{standing_of}
use Rattle.search.proofs.Standings.{reached_count}
use Rattle.search.proofs.Nexts.{nexts_dead, nexts_live}
use Rattle.search.proofs.search.Search.next.Goals as goal

pub latest_off-requires : goal.latest_off-requires
latest_off-requires c =
    let s = c.args.self.now in
    let few = s.system.few in
    let count = reached_count s.system.switches (rules_of s.system) s.state.tries.table s.state.tries.count (standing_of s).reached in
    omega arith

pub returns-in-Err : goal.returns-in-Err
returns-in-Err c =
    let mapped : c.map.result ≡ option_map Turn c.latest_off.result = search rules in
    subst (λ (r : Result Due (End (Unit {0}))). Nexts r c.args.self.now) (sym (c.ok_or.ensures.value ∙ ap (λ (o : Option Due). ok_or o end_none) mapped))
    (nexts_dead c.args.self.now (ap (λ (r : Result (Unit {0}) Dead). not (is_ok r)) c.in-Err.is) c.latest_off.result c.latest_off.ensures)

pub returns-in-Ok : goal.returns-in-Ok
returns-in-Ok c =
    let mapped : c.map-in-Ok.result ≡ option_map Add c.lowest_unset.result = search rules in
    subst (λ (r : Result Due (End (Unit {0}))). Nexts r c.args.self.now) (sym (c.ok_or-in-Ok.ensures.value ∙ ap (λ (o : Option Due). ok_or o (Found tt)) mapped))
    (nexts_live c.args.self.now c.in-Ok.is c.lowest_unset.result c.lowest_unset.ensures)
