use Rattle.std.proofs.Common.{◌++◌, [], ◌∷◌}
use Rattle.std.proofs.lemmas.Result.{err_from_is_err_and}
use Rattle.std.specs.List.{flat_map}
use Rattle.s3_xml.specs.Events.{begin, end}
use Rattle.s3_documents.proofs.SequenceLemmas.{lacks, then_lacks, then_told, then_room}
use Rattle.s3_documents.proofs.xml.put_within.Goals as goal

pub returns-in_err-begin-clause-room : goal.returns-in_err-begin-clause-room
returns-in_err-begin-clause-room g c =
    let front = begin c.args.name.now ∷ [] in
    let rows = flat_map (g.E.Entry.events c.args.manner) c.args.list.now in
    let back = end c.args.name.now ∷ [] in
    let p = err_from_is_err_and c.from_residual.result c.from_residual.ensures.1 in
    rw p.1 (lacks front (rows ++ back) c.args.writer.now.spare c.in_err-begin.ensures.room)

pub returns-in_err-put_entries-clause-room : goal.returns-in_err-put_entries-clause-room
returns-in_err-put_entries-clause-room g c =
    let front = begin c.args.name.now ∷ [] in
    let rows = flat_map (g.E.Entry.events c.args.manner) c.args.list.now in
    let back = end c.args.name.now ∷ [] in
    let p = err_from_is_err_and c.from_residual-in_err-put_entries.result c.from_residual-in_err-put_entries.ensures.1 in
    rw p.1 (then_lacks front (rows ++ back) c.args.writer.now.spare c.begin.new.self.spare c.in_ok-begin.ensures.room (lacks rows back c.begin.new.self.spare c.in_err-put_entries.ensures.room))

pub returns-clause-told : goal.returns-clause-told
returns-clause-told g c =
    let front = begin c.args.name.now ∷ [] in
    let rows = flat_map (g.E.Entry.events c.args.manner) c.args.list.now in
    let back = end c.args.name.now ∷ [] in
    then_told front (rows ++ back) c.end.result c.args.writer.now.bytes c.begin.new.self.bytes c.end.new.self.bytes c.in_ok-begin.ensures.told (then_told rows back c.end.result c.begin.new.self.bytes c.put_entries.new.writer.bytes c.end.new.self.bytes c.in_ok-put_entries.ensures.told c.end.ensures.told)

pub returns-clause-room : goal.returns-clause-room
returns-clause-room g c =
    let front = begin c.args.name.now ∷ [] in
    let rows = flat_map (g.E.Entry.events c.args.manner) c.args.list.now in
    let back = end c.args.name.now ∷ [] in
    then_room front (rows ++ back) c.end.result c.args.writer.now.spare c.begin.new.self.spare c.end.new.self.spare c.in_ok-begin.ensures.room (then_room rows back c.end.result c.begin.new.self.spare c.put_entries.new.writer.spare c.end.new.self.spare c.in_ok-put_entries.ensures.room c.end.ensures.room)
