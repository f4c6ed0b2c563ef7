use Rattle.s3_mirrored_rows.proofs.MirrorLemmas.{commits_made, commits_failed}
use Rattle.s3_mirrored_rows.proofs.committing.make.Goals as goal

pub returns-in-Ok : goal.returns-in-Ok
returns-in-Ok g c = λ t awaits.
    let steps = rw c.as_slice.ensures.value at c.in-Ok.ensures in
    commits_made c.stored_tables_are_one.ensures.shown c.args.waiting.now.items (g.F.LastingTables.state c.args.file.now) (g.F.LastingTables.state c.apply.new.self) t awaits c.in-Ok.field-0 tt steps c.clear.new.self.items c.clear.ensures.items

pub returns-in-Err : goal.returns-in-Err
returns-in-Err g c = λ t awaits.
    let steps = rw c.as_slice.ensures.value at c.in-Err.ensures in
    commits_failed c.stored_tables_are_one.ensures.shown c.args.waiting.now.items (g.F.LastingTables.state c.args.file.now) (g.F.LastingTables.state c.apply.new.self) t awaits c.in-Err.error c.table_fault.result steps
