use Rattle.std.proofs.Common.{◌++◌}
use Rattle.std.specs.List.{flat_map}
use Rattle.std.proofs.lemmas.Result.{err_from_is_err_and}
use Rattle.s3_documents.specs.Printed.{fields_of}
use Rattle.s3_documents.specs.Xml.{fields_events, listed}
use Rattle.s3_documents.proofs.SequenceLemmas.{both_room, both_told, lacks, then_lacks, then_room, then_told}
use Rattle.s3_documents.proofs.xml.put_lists.Goals as goal

pub returns-in_err-put_fields-clause-room : goal.returns-in_err-put_fields-clause-room
returns-in_err-put_fields-clause-room g c =
    let front = fields_events c.args.manner (fields_of c.args.before.now) in
    let rows = flat_map (g.D.Entry.events c.args.manner) c.args.list.now in
    let back = listed c.args.manner (fields_of c.args.between.now) (flat_map (g.E.Entry.events c.args.manner) c.args.more.now) (fields_of c.args.behind.now) in
    let p = err_from_is_err_and c.from_residual.result c.from_residual.ensures.1 in
    rw p.1 (lacks (front ++ rows) back c.args.writer.now.spare (lacks front rows c.args.writer.now.spare c.in_err-put_fields.ensures.room))

pub returns-in_err-put_entries-clause-room : goal.returns-in_err-put_entries-clause-room
returns-in_err-put_entries-clause-room g c =
    let front = fields_events c.args.manner (fields_of c.args.before.now) in
    let rows = flat_map (g.D.Entry.events c.args.manner) c.args.list.now in
    let back = listed c.args.manner (fields_of c.args.between.now) (flat_map (g.E.Entry.events c.args.manner) c.args.more.now) (fields_of c.args.behind.now) in
    let p = err_from_is_err_and c.from_residual-in_err-put_entries.result c.from_residual-in_err-put_entries.ensures.1 in
    rw p.1 (lacks (front ++ rows) back c.args.writer.now.spare (then_lacks front rows c.args.writer.now.spare c.put_fields.new.writer.spare c.in_ok-put_fields.ensures.room c.in_err-put_entries.ensures.room))

pub returns-clause-told : goal.returns-clause-told
returns-clause-told g c =
    let front = fields_events c.args.manner (fields_of c.args.before.now) in
    let rows = flat_map (g.D.Entry.events c.args.manner) c.args.list.now in
    let back = listed c.args.manner (fields_of c.args.between.now) (flat_map (g.E.Entry.events c.args.manner) c.args.more.now) (fields_of c.args.behind.now) in
    then_told (front ++ rows) back c.put_list.result c.args.writer.now.bytes c.put_entries.new.writer.bytes c.put_list.new.writer.bytes (both_told front rows c.args.writer.now.bytes c.put_fields.new.writer.bytes c.put_entries.new.writer.bytes c.in_ok-put_fields.ensures.told c.in_ok-put_entries.ensures.told) c.put_list.ensures.told

pub returns-clause-room : goal.returns-clause-room
returns-clause-room g c =
    let front = fields_events c.args.manner (fields_of c.args.before.now) in
    let rows = flat_map (g.D.Entry.events c.args.manner) c.args.list.now in
    let back = listed c.args.manner (fields_of c.args.between.now) (flat_map (g.E.Entry.events c.args.manner) c.args.more.now) (fields_of c.args.behind.now) in
    then_room (front ++ rows) back c.put_list.result c.args.writer.now.spare c.put_entries.new.writer.spare c.put_list.new.writer.spare (both_room front rows c.args.writer.now.spare c.put_fields.new.writer.spare c.put_entries.new.writer.spare c.in_ok-put_fields.ensures.room c.in_ok-put_entries.ensures.room) c.put_list.ensures.room
