use Rattle.std.proofs.Common.{length, vec_items, ap, arith}
use Rattle.std.proofs.lemmas.List.{length-map}
use Rattle.rules.specs.Views.{constraint}
use Rattle.session.proofs.opening.open.Goals as goal

pub invariant_of-result : goal.invariant_of-result
invariant_of-result g c =
    let law = g.met.S.Sheet.lawful c.args.sheet.now in
    let copied = c.in_ok-rules.ensures in
    let rules = c.in_ok-rules.rules in
    let long = ap length copied.rules in
    let items = length-map (vec_items rules.rules) constraint in
    let len = rules.rules.ok.0 in
    let searches = c.in_ok-search.ensures in
    record {
      few = omega (arith, c.len-count.ensures, long, items, len, law.short);
      margin = omega (arith, c.len-count.ensures);
      sheet = omega (arith, c.len-count.ensures);
      room = omega (arith, c.len-count.ensures, long, items, len, copied.room);
      clauses = searches.clauses;
      rows = searches.rows;
      switches = c.reduce.ensures.switches;
      reduced = c.reduce.ensures.rows;
      searched = tt;
    }
