use Rattle.std.proofs.Common.{to_z-of_z, refl, subst}
use Rattle.std.specs.Prelude.{IsTrue}
use Rattle.s3_versions.specs.Rules.{VersionPut}
use Rattle.s3_records.specs.Changes.{KeyChanged}
use Rattle.s3_row_values.specs.Values.{data_with}
use Rattle.s3_table_records.proofs.AnyBytesLemmas.{new_number_alike}
use Rattle.s3_table_records.proofs.KeptLemmas.{less_counted, is_shared, is_unshared}
use Rattle.s3_table_records.proofs.copying.put_shared.Goals as goal

pub put_version-requires-clause-newer : goal.put_version-requires-clause-newer
put_version-requires-clause-newer g c = λ contents.
    subst IsTrue (new_number_alike (g.B.StoredBodies.contents c.args.bodies.now) contents c.rows_tell_versions.ensures.all (g.R.StoredRows.tables c.args.rows.now) c.requires.kept.rows.sound c.args.number c.args.bucket.now c.args.key.now) c.requires.newer

pub give_up_all-requires : goal.give_up_all-requires
give_up_all-requires g c = λ n.
    rw (c.as_slice.ensures.value, c.in_default.ensures.uses)
    (less_counted (g.R.StoredRows.tables c.args.rows.now) (g.R.StoredRows.tables c.put_version.new.rows) (g.B.StoredBodies.uses c.args.bodies.now) c.in-Ok.gone.items c.args.names.now
    c.requires.kept.named c.in-Ok.ensures.ok.trades n)

pub returns-in-Ok-clause-changes : goal.returns-in-Ok-clause-changes
returns-in-Ok-clause-changes g c =
    is_shared (g.R.StoredRows.tables c.args.rows.now) (g.B.StoredBodies.contents c.args.bodies.now) (g.B.StoredBodies.uses c.args.bodies.now) c.args.next c.requires.kept c.args.bucket.now _
    _ (g.R.StoredRows.tables c.put_version.new.rows) (g.B.StoredBodies.contents c.give_up_all.new.bodies) (g.B.StoredBodies.uses c.give_up_all.new.bodies)
    (λ contents. KeyChanged c.args.key.now (VersionPut c.args.number c.args.moment (data_with contents c.args.names.now c.args.described.now)))
    c.in-Ok.gone.items c.args.names.now (rw (to_z-of_z c.ranges.next) at c.in-Ok.ensures.ok) refl
    (rw (c.as_slice.ensures.value, c.in_default.ensures.uses) at c.give_up_all.ensures.uses)
    (rw c.in_default.ensures.contents at c.give_up_all.ensures.contents)

pub returns-in-Err-put_version-clause-changes : goal.returns-in-Err-put_version-clause-changes
returns-in-Err-put_version-clause-changes g c =
    rw c.in-Err-put_version.ensures.err
    (is_unshared (g.R.StoredRows.tables c.args.rows.now) (g.B.StoredBodies.contents c.args.bodies.now) (g.B.StoredBodies.uses c.args.bodies.now) c.args.next c.requires.kept c.args.bucket.now _
    _ (g.B.StoredBodies.contents c.give_up_all-in-Err-put_version.new.bodies) (g.B.StoredBodies.uses c.give_up_all-in-Err-put_version.new.bodies) c.args.names.now
    (rw c.in_default.ensures.uses at c.give_up_all-in-Err-put_version.ensures.uses) (rw c.in_default.ensures.contents at c.give_up_all-in-Err-put_version.ensures.contents))
