use Rattle.std.proofs.Common.{◌≡◌, ◌∙◌, rules}
use Rattle.std.specs.Option.{unwrap_or}
use Rattle.std.specs.Result.{result_err}
use Rattle.search.specs.declared.progress.End.TheVariants.{Spent}
use Rattle.search.specs.Searches.{course_of}
use Rattle.search.proofs.Budgets.{went_more}
use Rattle.search.proofs.Nexts.{nexts_end, nexts_told, told_right}
use Rattle.search.proofs.search.Search.go_on.Goals as goal

pub returns-in-Err-clause-tells : goal.returns-in-Err-clause-tells
returns-in-Err-clause-tells c =
    told_right c.loop-tries.self c.args.self.now.system c.in-Err.end c.loop-tries.invariant.same (nexts_end c.loop-tries.self c.in-Err.end c.in-Err.ensures)

pub loop-tries-preserved : goal.loop-tries-preserved
loop-tries-preserved c =
    let same = c.make.ensures.same ∙ c.loop-tries.invariant.same in
    record {
      same = same;
      goes = went_more c.args.self.now.system c.loop-tries.self c.make.new.self c.args.budget c.loop-tries.tries (course_of c.args.self.now) same c.loop-tries-test.true c.make.ensures.follows c.loop-tries.invariant.goes;
    }

pub returns-clause-tells : goal.returns-clause-tells
returns-clause-tells c =
    let s = c.loop-tries.self in
    let told : c.unwrap_or-end.result ≡ unwrap_or (result_err c.next-2.result) Spent = search rules in
    told_right s c.args.self.now.system c.unwrap_or-end.result c.loop-tries.invariant.same (told ∙ nexts_told s c.next-2.result c.next-2.ensures)
