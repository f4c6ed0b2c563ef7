use Rattle.std.proofs.Common.{to_z-of_z, subst, ◌∷◌, []}
use Rattle.std.specs.Prelude.{IsTrue}
use Rattle.s3_versions.specs.Rules.{VersionPut}
use Rattle.s3_records.specs.Changes.{KeyChanged}
use Rattle.s3_row_values.specs.Values.{data_with}
use Rattle.s3_table_records.proofs.AnyBytesLemmas.{new_number_alike}
use Rattle.s3_table_records.proofs.KeptLemmas.{less_counted, is_put, is_back}
use Rattle.s3_table_records.proofs.DataLemmas.{put_same}
use Rattle.s3_table_records.proofs.putting.put_described.Goals as goal

pub put_version-requires-clause-newer : goal.put_version-requires-clause-newer
put_version-requires-clause-newer g c = λ contents.
    subst IsTrue (new_number_alike (g.B.StoredBodies.contents c.args.bodies.now) contents c.rows_tell_versions.ensures.all (g.R.StoredRows.tables c.args.rows.now) c.requires.kept.rows.sound c.args.number c.args.bucket.now c.args.key.now) c.requires.newer

pub give_up_all-requires : goal.give_up_all-requires
give_up_all-requires g c = λ n.
    rw (c.as_slice.ensures.value, c.in-Ok.ensures.uses)
    (less_counted (g.R.StoredRows.tables c.args.rows.now) (g.R.StoredRows.tables c.put_version.new.rows) (g.B.StoredBodies.uses c.args.bodies.now) c.in-Ok-put_version.gone.items (c.in-Ok.held ∷ []) c.requires.kept.named c.in-Ok-put_version.ensures.ok.trades n)

pub returns-in-Ok-put_version-clause-changes : goal.returns-in-Ok-put_version-clause-changes
returns-in-Ok-put_version-clause-changes g c =
    is_put (g.R.StoredRows.tables c.args.rows.now) (g.B.StoredBodies.contents c.args.bodies.now) (g.B.StoredBodies.uses c.args.bodies.now) c.args.next c.requires.kept c.args.bucket.now _
    (g.B.StoredBodies.contents c.give_up_all.new.bodies) (g.B.StoredBodies.uses c.give_up_all.new.bodies) c.in-Ok.held c.args.body (g.met.B.StoredBodies.named_where_there c.args.bodies.now) c.in-Ok.ensures.new_or_same
    _ (g.R.StoredRows.tables c.put_version.new.rows) (λ contents. KeyChanged c.args.key.now (VersionPut c.args.number c.args.moment (data_with contents (c.in-Ok.held ∷ []) c.args.described.now))) c.in-Ok-put_version.gone.items (rw (to_z-of_z c.ranges.next) at c.in-Ok-put_version.ensures.ok)
    (put_same c.args.key.now c.args.number c.args.moment c.args.described.now (g.B.StoredBodies.contents c.args.bodies.now) c.in-Ok.held c.args.body)
    (rw (c.as_slice.ensures.value, c.in-Ok.ensures.uses) at c.give_up_all.ensures.uses)
    (rw c.in-Ok.ensures.contents at c.give_up_all.ensures.contents)

pub returns-in-Err-put_version-clause-changes : goal.returns-in-Err-put_version-clause-changes
returns-in-Err-put_version-clause-changes g c =
    rw c.in-Err-put_version.ensures.err
    (is_back (g.R.StoredRows.tables c.args.rows.now) (g.B.StoredBodies.contents c.args.bodies.now) (g.B.StoredBodies.uses c.args.bodies.now) c.args.next c.requires.kept c.args.bucket.now _
    (g.B.StoredBodies.contents c.give_up.new.self) (g.B.StoredBodies.uses c.give_up.new.self) c.in-Ok.held c.args.body (g.met.B.StoredBodies.named_where_there c.args.bodies.now) c.in-Ok.ensures.new_or_same
    _ (rw c.in-Ok.ensures.uses at c.give_up.ensures.uses) (rw c.in-Ok.ensures.contents at c.give_up.ensures.contents))
