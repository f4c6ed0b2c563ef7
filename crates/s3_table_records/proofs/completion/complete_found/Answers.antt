use Rattle.std.proofs.Common.{to_z-of_z, refl, subst, pos, ◌++◌}
use Rattle.std.specs.Prelude.{IsTrue}
use Rattle.s3_versions.specs.Rules.{VersionPut}
use Rattle.s3_records.specs.Changes.{UploadCompleted}
use Rattle.s3_row_values.specs.Values.{data_with}
use Rattle.s3_row_changes.specs.Trading.{sent_numbers}
use Rattle.s3_stored_rows.specs.Queries.{upload_of_id}
use Rattle.s3_table_records.proofs.AnyBytesLemmas.{new_number_alike}
use Rattle.s3_table_records.proofs.KeptLemmas.{less_counted, is_shared, is_unshared}
use Rattle.s3_table_records.proofs.completion.complete_found.Goals as goal

pub complete-requires-clause-newer : goal.complete-requires-clause-newer
complete-requires-clause-newer g c = λ contents.
    subst IsTrue (new_number_alike (g.B.StoredBodies.contents c.args.bodies.now) contents c.rows_tell_versions.ensures.all (g.R.StoredRows.tables c.args.rows.now) c.requires.kept.rows.sound c.args.number c.args.bucket.now c.args.key.now) c.requires.newer

pub give_up_both-requires : goal.give_up_both-requires
give_up_both-requires g c = λ n.
    let t = g.R.StoredRows.tables c.args.rows.now in
    rw (c.deref.ensures.value, c.requires.names, c.in_default.ensures.uses)
    (less_counted t (g.R.StoredRows.tables c.complete.new.rows) (g.B.StoredBodies.uses c.args.bodies.now) (c.in-Ok.gone.items ++ sent_numbers t (upload_of_id c.args.bucket.now c.args.key.now (pos c.args.id) t)) c.args.listed.now
    c.requires.kept.named c.in-Ok.ensures.ok.trades n)

pub returns-in-Ok-clause-changes : goal.returns-in-Ok-clause-changes
returns-in-Ok-clause-changes g c =
    let t = g.R.StoredRows.tables c.args.rows.now in
    is_shared t (g.B.StoredBodies.contents c.args.bodies.now) (g.B.StoredBodies.uses c.args.bodies.now) c.args.next c.requires.kept c.args.bucket.now _
    _ (g.R.StoredRows.tables c.complete.new.rows) (g.B.StoredBodies.contents c.give_up_both.new.bodies) (g.B.StoredBodies.uses c.give_up_both.new.bodies)
    (λ contents. UploadCompleted c.args.key.now c.args.id (VersionPut c.args.number c.args.moment (data_with contents c.args.listed.now c.args.described.now)))
    (c.in-Ok.gone.items ++ sent_numbers t (upload_of_id c.args.bucket.now c.args.key.now (pos c.args.id) t)) c.args.listed.now (rw (to_z-of_z c.ranges.next) at c.in-Ok.ensures.ok) refl
    (rw (c.deref.ensures.value, c.requires.names, c.in_default.ensures.uses) at c.give_up_both.ensures.uses)
    (rw c.in_default.ensures.contents at c.give_up_both.ensures.contents)

pub returns-in-Err-complete-clause-changes : goal.returns-in-Err-complete-clause-changes
returns-in-Err-complete-clause-changes g c =
    rw c.in-Err-complete.ensures.err
    (is_unshared (g.R.StoredRows.tables c.args.rows.now) (g.B.StoredBodies.contents c.args.bodies.now) (g.B.StoredBodies.uses c.args.bodies.now) c.args.next c.requires.kept c.args.bucket.now _
    _ (g.B.StoredBodies.contents c.give_up_all.new.bodies) (g.B.StoredBodies.uses c.give_up_all.new.bodies) c.args.listed.now
    (rw c.in_default.ensures.uses at c.give_up_all.ensures.uses) (rw c.in_default.ensures.contents at c.give_up_all.ensures.contents))
