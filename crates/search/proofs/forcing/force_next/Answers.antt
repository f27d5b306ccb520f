use Rattle.std.proofs.Common.{ℕ, ◌+◌, map, Option, Result, refl, subst}
use Rattle.search.specs.declared.looking.Dead.{Dead}
use Rattle.search.specs.Moves.{GoesOn}
use Rattle.search.proofs.Going.{passed_on, next_dead, next_quiet, next_again, next_within, next_moves, next_less}
use Rattle.search.proofs.forcing.force_next.Goals as goal

pub put-requires : goal.put-requires
put-requires g c = next_within (map g.R.Forcing.constraint c.args.rules.now) c.args.from c.args.part.now c.in-Some.forced _ c.in-Some.is c.in_ok-forced.ensures.first 256 c.requires

pub returns-in_err-forced-clause-goes : goal.returns-in_err-forced-clause-goes
returns-in_err-forced-clause-goes g c =
    let rs = map g.R.Forcing.constraint c.args.rules.now in
    subst (λ (r : Result (Option ℕ) Dead). GoesOn r rs c.args.from c.args.part.now c.args.part.now) (passed_on c.from_residual.result c.from_residual.ensures.0) (next_dead rs c.args.from c.args.part.now (record {}) c.in_err-forced.ensures.first)

pub returns-in-Some : goal.returns-in-Some
returns-in-Some g c =
    let rs = map g.R.Forcing.constraint c.args.rules.now in
    let x = c.in-Some.forced in
    let e = c.in_ok-forced.ensures in
    record {
      moves = next_moves rs c.args.from c.args.part.now x _ c.in-Some.is e.first c.put.new.self c.put.ensures e.unset;
      goes = next_less rs c.args.from c.args.part.now x _ c.in-Some.is e.first c.put.new.self c.put.ensures e.unset 256 c.requires (x.at + 1);
    }

pub returns-in-None-clause-goes : goal.returns-in-None-clause-goes
returns-in-None-clause-goes g c =
    let rs = map g.R.Forcing.constraint c.args.rules.now in
    (next_quiet rs c.args.from c.args.part.now _ c.in-None.is c.if-from-eq0.true c.in_ok-forced.ensures.first, refl {a = c.args.part.now})

pub returns-in-None-2-clause-goes : goal.returns-in-None-2-clause-goes
returns-in-None-2-clause-goes g c = next_again (map g.R.Forcing.constraint c.args.rules.now) c.args.from c.args.part.now 256 c.if-from-eq0.false
