use Rattle.std.proofs.Common.{map, refl, ap, ◌∙◌, arith}
use Rattle.std.specs.List.{slice_get}
use Rattle.std.specs.Option.{option_map}
use Rattle.std.proofs.lemmas.List.{length-set, length-map}
use Rattle.rules.specs.declared.kinds.Kind.TheVariants.{Parity}
use Rattle.rules.specs.Constraints.{switch_of}
use Rattle.sheets.specs.Meaning.{entries_in}
use Rattle.sheets.proofs.Gathered.{parity_told, told_few, nth_map, held_more, held_none, held_all}
use Rattle.sheets.proofs.rules_of.parity_at.Goals as goal

pub returns-in-None : goal.returns-in-None
returns-in-None g c =
    let es = entries_in (slice_get (g.S.Sheet.meaning c.args.sheet.now).rules c.args.i) in
    let none = ap (option_map switch_of) c.in-None.ensures ∙ nth_map switch_of es c.loop-j.j in
    parity_told _ _ _ c.args.side c.requires (held_none c.loop-j.switches (map switch_of es) c.loop-j.j c.loop-j.invariant.held none) refl

pub loop-j-preserved : goal.loop-j-preserved
loop-j-preserved g c =
    let es = entries_in (slice_get (g.S.Sheet.meaning c.args.sheet.now).rules c.args.i) in
    let inv = c.loop-j.invariant in
    let some = ap (option_map switch_of) c.in-Some.ensures ∙ nth_map switch_of es c.loop-j.j in
    record {
      sized = length-set c.loop-j.switches _ _ ∙ inv.sized;
      held = held_more c.loop-j.switches (map switch_of es) c.loop-j.j inv.held c.in-Some.literal.switch (omega (arith, inv.sized)) some;
    }

pub returns : goal.returns
returns g c =
    let m = g.S.Sheet.meaning c.args.sheet.now in
    let es = entries_in (slice_get m.rules c.args.i) in
    let few = told_few m (g.met.S.Sheet.lawful c.args.sheet.now) c.args.i (Parity c.args.side) c.requires in
    parity_told _ _ _ c.args.side c.requires (held_all c.loop-j.switches (map switch_of es) c.loop-j.j c.loop-j.invariant.held 16 (omega arith) (omega (arith, length-map es switch_of, few))) refl
