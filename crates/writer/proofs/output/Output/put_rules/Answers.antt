use Rattle.std.proofs.Common.{arith}
use Rattle.std.proofs.lemmas.Bool.{and_parts}
use Rattle.rules.specs.Views.{constraint}
use Rattle.writer.specs.Writing.{rule_bytes}
use Rattle.writer.proofs.Puts.{room_front, room_then, puts_then, puts_none}
use Rattle.writer.proofs.output.Output.put_rules.Goals as goal

pub put_rule-requires : goal.put_rule-requires
put_rule-requires g c =
    let narrow = rw c.in-Some.ensures.steps at c.loop-rule.invariant.narrow in
    let room = rw c.in-Some.ensures.steps at c.loop-rule.invariant.room in
    record { narrow = (and_parts _ _ narrow).0; room = room_front (rule_bytes (constraint c.in-Some.rule)) _ c.loop-rule.self room }

pub loop-rule-preserved : goal.loop-rule-preserved
loop-rule-preserved g c =
    let narrow = rw c.in-Some.ensures.steps at c.loop-rule.invariant.narrow in
    let room = rw c.in-Some.ensures.steps at c.loop-rule.invariant.room in
    let rest = rw c.in-Some.ensures.steps at c.loop-rule.invariant.rest in
    record {
      narrow = (and_parts _ _ narrow).1;
      room = room_then (rule_bytes (constraint c.in-Some.rule)) _ c.loop-rule.self c.put_rule.new.self room c.put_rule.ensures;
      rest = λ n put. rest n (puts_then (rule_bytes (constraint c.in-Some.rule)) _ c.loop-rule.self c.put_rule.new.self n (omega (arith, room)) c.put_rule.ensures put);
    }

pub returns : goal.returns
returns g c = let rest = rw c.in-None.ensures.steps.0 at c.loop-rule.invariant.rest in rest c.loop-rule.self (puts_none c.loop-rule.self)
