use Rattle.std.proofs.Common.{map, ap, ◌∙◌, arith}
use lib.ListN.{length-map}
use Rattle.std.proofs.lemmas.List.{map_push}
use Rattle.rules.specs.First.{every}
use Rattle.rules.specs.Lawful.{lawful}
use Rattle.rules.specs.Views.{constraint}
use Rattle.files.specs.Reads.{left, with_next}
use Rattle.files.proofs.Walk.{onward, ended}
use Rattle.files.proofs.LawfulFiles.{file_lawful}
use Rattle.files.proofs.reading.read_faultless.Goals as goal

pub records-preserved : goal.records-preserved
records-preserved g c =
    let later = left g.G.Generation.format c.next_rule.new.self in
    let told = c.next_rule.ensures.whole ∙ ap (λ r. with_next r later) c.unwrap.ensures in
    rw (ap (map constraint) c.in_ok-push.ensures.items ∙ map_push constraint c.records.rules.items c.in-Some.rule)
    (onward c.records.invariant c.next_rule.new.self c.unwrap.result c.in-Some.rule c.in-Some.is c.next_rule.ensures.switches told)

pub invariant_of-result : goal.invariant_of-result
invariant_of-result g c =
    let later = left g.G.Generation.format c.next_rule.new.self in
    let told = c.next_rule.ensures.whole ∙ ap (λ r. with_next r later) c.unwrap.ensures in
    let keeps = file_lawful _ g.met.G.Generation.sound c.args.bytes.now _ (ended c.records.invariant later c.unwrap.result c.in_default.is told) in
    record { narrow = c.next_rule.new.self.narrow; short = omega (arith, keeps.few, length-map c.records.rules.items constraint, c.records.rules.ok.0); sound = ap (λ n. every (lawful n) (map constraint c.records.rules.items)) c.next_rule.ensures.switches ∙ keeps.sheet.sound }
