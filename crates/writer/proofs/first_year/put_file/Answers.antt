use Rattle.std.proofs.Common.{rules}
use Rattle.writer.proofs.Outcomes.{records_room, end_room, file_put}
use Rattle.writer.proofs.first_year.put_file.Goals as goal

pub put_rules-requires-clause-room : goal.put_rules-requires-clause-room
put_rules-requires-clause-room g c =
    records_room (g.S.Sheet.meaning c.args.sheet.now) c.args.records c.requires.counted c.args.out.now c.requires.room c.new-file.result c.put_numbered.new.self c.new-file.ensures.same_bytes c.new-file.ensures.none c.switches.result c.switches.ensures c.put_numbered.ensures

pub put_numbered-requires-2 : goal.put_numbered-requires-2
put_numbered-requires-2 g c =
    end_room (g.S.Sheet.meaning c.args.sheet.now) c.args.records c.requires.counted c.args.out.now c.requires.room c.new-file.result c.put_numbered.new.self c.new-file.ensures.same_bytes c.new-file.ensures.none c.switches.result c.switches.ensures c.put_numbered.ensures
    c.put_rules.new.self c.put_rules.ensures

pub returns : goal.returns
returns g c =
    let put =
    file_put (g.S.Sheet.meaning c.args.sheet.now) c.args.records c.requires.counted c.args.out.now c.requires.room c.new-file.result c.put_numbered.new.self c.new-file.ensures.same_bytes c.new-file.ensures.none c.switches.result c.switches.ensures c.put_numbered.ensures
    c.put_rules.new.self c.put_rules.ensures c.put_numbered-2.new.self c.put_numbered-2.ensures in
    search rules
