use Rattle.files.proofs.Walk.{onward}
use Rattle.files.proofs.LawfulFiles.{file_lawful}
use Rattle.files.proofs.reading.check_file.Goals as goal

pub records-preserved : goal.records-preserved
records-preserved g c =
    (_, onward c.records.invariant.1 c.next_rule.new.self _ c.in-Some._rule c.in-Some.is c.next_rule.ensures.switches c.in_ok-_rule.ensures.whole)

pub returns-clause-lawful : goal.returns-clause-lawful
returns-clause-lawful g c = file_lawful _ g.met.G.Generation.sound c.args.bytes.now
