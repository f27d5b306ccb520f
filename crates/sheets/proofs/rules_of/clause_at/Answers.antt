use Rattle.std.proofs.Common.{◌∙◌, arith}
use Rattle.std.specs.List.{slice_get}
use Rattle.std.proofs.lemmas.List.{length-set}
use Rattle.rules.specs.declared.kinds.Kind.TheVariants.{Clause}
use Rattle.sheets.specs.Meaning.{entries_in}
use Rattle.sheets.proofs.Gathered.{clause_told, told_few, held_more, held_none, held_all}
use Rattle.sheets.proofs.rules_of.clause_at.Goals as goal

pub returns-in-None : goal.returns-in-None
returns-in-None g c =
    let o = slice_get (g.S.Sheet.meaning c.args.sheet.now).rules c.args.i in
    clause_told o _ c.requires (held_none c.loop-j.literals (entries_in o) c.loop-j.j c.loop-j.invariant.held c.in-None.ensures)

pub loop-j-preserved : goal.loop-j-preserved
loop-j-preserved g c =
    let o = slice_get (g.S.Sheet.meaning c.args.sheet.now).rules c.args.i in
    let inv = c.loop-j.invariant in
    record {
      sized = length-set c.loop-j.literals _ _ ∙ inv.sized;
      held = held_more c.loop-j.literals (entries_in o) c.loop-j.j inv.held c.in-Some.literal (omega (arith, inv.sized)) c.in-Some.ensures;
    }

pub returns : goal.returns
returns g c =
    let m = g.S.Sheet.meaning c.args.sheet.now in
    let o = slice_get m.rules c.args.i in
    let few = told_few m (g.met.S.Sheet.lawful c.args.sheet.now) c.args.i Clause c.requires in
    clause_told o _ c.requires (held_all c.loop-j.literals (entries_in o) c.loop-j.j c.loop-j.invariant.held 8 (omega arith) few)
