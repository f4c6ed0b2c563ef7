use Rattle.std.proofs.Common.{to_z-of_z, refl, pos, ◌+ℤ◌}
use Rattle.s3_records.specs.Changes.{UploadAdded}
use Rattle.s3_table_records.proofs.KeptLemmas.{is_gone, is_same}
use Rattle.s3_table_records.proofs.UploadLemmas.{gone_counted}
use Rattle.s3_table_records.proofs.uploads.add_upload.Goals as goal

pub give_up_all-requires : goal.give_up_all-requires
give_up_all-requires g c =
    gone_counted (g.R.StoredRows.tables c.args.rows.now) (g.R.StoredRows.tables c.add_upload.new.rows) (g.B.StoredBodies.uses c.args.bodies.now) c.in-Ok.gone.items c.deref.result.now
    c.requires.kept.named c.in-Ok.ensures.ok.trades c.deref.ensures.value

pub returns-in-Ok-clause-changes : goal.returns-in-Ok-clause-changes
returns-in-Ok-clause-changes g c =
    is_gone (g.R.StoredRows.tables c.args.rows.now) (g.B.StoredBodies.contents c.args.bodies.now) (g.B.StoredBodies.uses c.args.bodies.now) c.args.next c.requires.kept c.args.bucket.now _
    _ (g.R.StoredRows.tables c.add_upload.new.rows) (g.B.StoredBodies.contents c.give_up_all.new.bodies) (g.B.StoredBodies.uses c.give_up_all.new.bodies) (c.args.next +ℤ pos 1)
    (λ _. UploadAdded c.args.key.now c.args.id c.args.upload.now) c.in-Ok.gone.items (rw (to_z-of_z c.ranges.next) at c.in-Ok.ensures.ok) refl
    (rw c.deref.ensures.value at c.give_up_all.ensures.uses) c.give_up_all.ensures.contents

pub returns-in-Err-clause-changes : goal.returns-in-Err-clause-changes
returns-in-Err-clause-changes g c =
    rw c.in-Err.ensures.err
    (is_same (g.R.StoredRows.tables c.args.rows.now) (g.B.StoredBodies.contents c.args.bodies.now) (g.B.StoredBodies.uses c.args.bodies.now) c.args.next c.requires.kept c.args.bucket.now _ _)
