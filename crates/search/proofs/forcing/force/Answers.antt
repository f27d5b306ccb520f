use Rattle.std.proofs.Common.{ℕ, List, ◌++◌, map, vec_items, Option, Ok, Result, sym, refl, ap, subst}
use Rattle.rules.specs.Constraints.{Constraint}
use Rattle.rules.specs.Views.{clause_constraint, row_constraint}
use Rattle.search_theory.specs.Forcing.{Over}
use Rattle.search.specs.declared.looking.Dead.{Dead}
use Rattle.search.specs.Values.{part_of}
use Rattle.search.specs.Moves.{Ends, GoesOn}
use Rattle.search.proofs.Going.{passed_on, back_moves, back_dead, front_moves, front_dead, both_still, both_less}
use Rattle.search.proofs.Reduction.{clauses_over, rows_over}
use Rattle.search.proofs.forcing.force.Goals as goal

pub force_alone-requires : goal.force_alone-requires
force_alone-requires c = subst (λ (x : List Constraint). Over 256 x) (sym (ap (map row_constraint) c.as_slice.ensures.value)) (rows_over c.args.system.now)

pub force_next-requires : goal.force_next-requires
force_next-requires c = subst (λ (x : List Constraint). Over 256 x) (sym (ap (map clause_constraint) c.as_slice-in-loop-part.ensures.value)) (clauses_over c.args.system.now)

pub returns-in_err-force_alone : goal.returns-in_err-force_alone
returns-in_err-force_alone c =
    let cs = map clause_constraint (vec_items c.args.system.now.clauses) in
    let rs = map row_constraint (vec_items c.args.system.now.rows) in
    let re = ap (map row_constraint) c.as_slice.ensures.value in
    record {
      moves = back_moves cs rs cs (map row_constraint c.as_slice.result.now) refl re c.args.part.now c.loop-part.part c.force_alone.new.part c.loop-part.invariant c.force_alone.ensures.moves;
      ends = subst (λ (r : Result (Unit {0}) Dead). Ends r (cs ++ rs) (part_of c.force_alone.new.part)) (passed_on c.from_residual.result c.from_residual.ensures.0) (back_dead cs rs cs (map row_constraint c.as_slice.result.now) refl re c.args.part.now c.loop-part.part c.force_alone.new.part c.loop-part.invariant c.force_alone.ensures.moves c.in_err-force_alone.ensures.ends);
    }

pub returns-in_err-next : goal.returns-in_err-next
returns-in_err-next c =
    let cs = map clause_constraint (vec_items c.args.system.now.clauses) in
    let rs = map row_constraint (vec_items c.args.system.now.rows) in
    let re = ap (map row_constraint) c.as_slice.ensures.value in
    let ce = ap (map clause_constraint) c.as_slice-in-loop-part.ensures.value in
    record {
      moves = front_moves cs rs (map clause_constraint c.as_slice-in-loop-part.result.now) (map row_constraint c.as_slice.result.now) ce re c.args.part.now c.loop-part.part c.force_alone.new.part c.loop-part.invariant c.force_alone.ensures.moves c.force_next.new.part c.force_next.ensures.moves;
      ends = subst (λ (r : Result (Unit {0}) Dead). Ends r (cs ++ rs) (part_of c.force_next.new.part)) (passed_on c.from_residual-in_err-next.result c.from_residual-in_err-next.ensures.0) (front_dead cs rs (map clause_constraint c.as_slice-in-loop-part.result.now) (map row_constraint c.as_slice.result.now) ce re c.args.part.now c.loop-part.part c.force_alone.new.part c.loop-part.invariant c.force_alone.ensures.moves c.force_next.new.part c.force_next.ensures.moves c.in_err-next.ensures.goes);
    }

pub returns-in-None : goal.returns-in-None
returns-in-None c =
    let cs = map clause_constraint (vec_items c.args.system.now.clauses) in
    let rs = map row_constraint (vec_items c.args.system.now.rows) in
    let re = ap (map row_constraint) c.as_slice.ensures.value in
    let ce = ap (map clause_constraint) c.as_slice-in-loop-part.ensures.value in
    let goes = subst (λ (o : Option ℕ). GoesOn (Ok o) (map clause_constraint c.as_slice-in-loop-part.result.now) c.loop-part.from c.force_alone.new.part c.force_next.new.part) c.in-None.is c.in_ok-next.ensures.goes in
    record {
      moves = front_moves cs rs (map clause_constraint c.as_slice-in-loop-part.result.now) (map row_constraint c.as_slice.result.now) ce re c.args.part.now c.loop-part.part c.force_alone.new.part c.loop-part.invariant c.force_alone.ensures.moves c.force_next.new.part c.force_next.ensures.moves;
      ends = both_still cs rs (map clause_constraint c.as_slice-in-loop-part.result.now) (map row_constraint c.as_slice.result.now) ce re c.args.part.now c.loop-part.part c.force_alone.new.part c.loop-part.invariant c.force_alone.ensures.moves c.force_next.new.part c.force_next.ensures.moves c.in_ok-force_alone.ensures.ends goes.0 goes.1;
    }

pub loop-part-smaller : goal.loop-part-smaller
loop-part-smaller c =
    let cs = map clause_constraint (vec_items c.args.system.now.clauses) in
    let rs = map row_constraint (vec_items c.args.system.now.rows) in
    let re = ap (map row_constraint) c.as_slice.ensures.value in
    let ce = ap (map clause_constraint) c.as_slice-in-loop-part.ensures.value in
    let goes = subst (λ (o : Option ℕ). GoesOn (Ok o) (map clause_constraint c.as_slice-in-loop-part.result.now) c.loop-part.from c.force_alone.new.part c.force_next.new.part) c.in-Some.is c.in_ok-next.ensures.goes in
    both_less cs rs (map clause_constraint c.as_slice-in-loop-part.result.now) (map row_constraint c.as_slice.result.now) ce re c.args.part.now c.loop-part.part c.force_alone.new.part c.loop-part.invariant c.force_alone.ensures.moves c.force_next.new.part c.force_next.ensures.moves 256 c.loop-part.from c.in-Some.next goes

pub loop-part-preserved : goal.loop-part-preserved
loop-part-preserved c =
    let cs = map clause_constraint (vec_items c.args.system.now.clauses) in
    let rs = map row_constraint (vec_items c.args.system.now.rows) in
    let re = ap (map row_constraint) c.as_slice.ensures.value in
    let ce = ap (map clause_constraint) c.as_slice-in-loop-part.ensures.value in
    front_moves cs rs (map clause_constraint c.as_slice-in-loop-part.result.now) (map row_constraint c.as_slice.result.now) ce re c.args.part.now c.loop-part.part c.force_alone.new.part c.loop-part.invariant c.force_alone.ensures.moves c.force_next.new.part c.force_next.ensures.moves
