use Rattle.std.proofs.Common.{to_z-of_z, SFits, w64, subst, rules}
use Rattle.std.specs.Prelude.{IsTrue}
use Rattle.s3_stored_rows.specs.Changes.{after_all}
use Rattle.s3_table_records.proofs.AnyBytesLemmas.{new_number_alike}
use Rattle.s3_table_records.proofs.DroppingLemmas.{dropped_counted, is_all_deleted}
use Rattle.s3_table_records.proofs.dropping.delete_all.Goals as goal

pub plan_deletions-requires-clause-below : goal.plan_deletions-requires-clause-below
plan_deletions-requires-clause-below g c = λ contents name key.
    subst IsTrue (new_number_alike (g.B.StoredBodies.contents c.args.bodies.now) contents c.rows_tell_versions.ensures.all (g.R.StoredRows.tables c.args.rows.now) c.requires.kept.rows.sound c.args.number name key) (c.requires.below name key)

pub change_all-requires : goal.change_all-requires
change_all-requires g c = λ n.
    rw c.as_slice-3.ensures.value
    (dropped_counted (g.R.StoredRows.tables c.args.rows.now) (after_all c.in_ok-changes.field-0.changes.items (g.R.StoredRows.tables c.args.rows.now)) (g.B.StoredBodies.uses c.args.bodies.now) c.in_ok-changes.field-0.gone.items c.requires.kept.named
    c.in_ok-changes.ensures.value.trades n)

pub returns-in-Ok-clause-deletes : goal.returns-in-Ok-clause-deletes
returns-in-Ok-clause-deletes g c =
    let fits : SFits w64 c.in_ok-changes.field-0.next = search rules in
    is_all_deleted (g.R.StoredRows.tables c.args.rows.now) (g.B.StoredBodies.contents c.args.bodies.now) (g.B.StoredBodies.uses c.args.bodies.now) c.args.next.now c.requires.kept c.args.bucket.now c.args.number c.args.moment c.args.objects.now c.in_ok-changes.field-0 c.in_ok-changes.ensures.value
    (g.B.StoredBodies.contents c.change_all.new.bodies) (g.B.StoredBodies.uses c.change_all.new.bodies)
    (rw c.as_slice-3.ensures.value at c.in-Ok.ensures.uses)
    (rw c.as_slice.ensures.value at c.ids_stay_small.ensures (g.R.StoredRows.tables c.args.rows.now) c.requires.kept.rows.small) c.in-Ok.ensures.contents
    (g.R.StoredRows.tables c.change_all.new.rows) _ c.new.result
    (rw (c.as_slice-2.ensures.value, c.in_ok-changes.ensures.same) at c.in-Ok.ensures.tables) (to_z-of_z fits) c.new.ensures
