use Rattle.std.proofs.Common.{to_z-of_z, refl, subst, ◌+ℤ◌, pos}
use Rattle.std.specs.Prelude.{IsTrue}
use Rattle.s3_versions.specs.Rules.{KeyDeleted}
use Rattle.s3_records.specs.Changes.{KeyChanged}
use Rattle.s3_table_records.proofs.AnyBytesLemmas.{new_number_alike}
use Rattle.s3_table_records.proofs.KeptLemmas.{is_gone, is_same}
use Rattle.s3_table_records.proofs.DroppingLemmas.{dropped_counted}
use Rattle.s3_table_records.proofs.dropping.delete.Goals as goal

pub delete-requires-clause-newer : goal.delete-requires-clause-newer
delete-requires-clause-newer g c = λ contents.
    subst IsTrue (new_number_alike (g.B.StoredBodies.contents c.args.bodies.now) contents c.rows_tell_versions.ensures.all (g.R.StoredRows.tables c.args.rows.now) c.requires.kept.rows.sound c.args.number c.args.bucket.now c.args.key.now) c.requires.newer

pub give_up_all-requires : goal.give_up_all-requires
give_up_all-requires g c = λ n.
    rw c.as_slice.ensures.value
    (dropped_counted (g.R.StoredRows.tables c.args.rows.now) (g.R.StoredRows.tables c.delete.new.rows) (g.B.StoredBodies.uses c.args.bodies.now) c.in-Ok.gone.items c.requires.kept.named c.in-Ok.ensures.ok.trades n)

pub returns-in-Ok-clause-changes : goal.returns-in-Ok-clause-changes
returns-in-Ok-clause-changes g c =
    is_gone (g.R.StoredRows.tables c.args.rows.now) (g.B.StoredBodies.contents c.args.bodies.now) (g.B.StoredBodies.uses c.args.bodies.now) c.args.next c.requires.kept c.args.bucket.now (KeyChanged c.args.key.now (KeyDeleted c.args.number c.args.moment))
    _ (g.R.StoredRows.tables c.delete.new.rows) (g.B.StoredBodies.contents c.give_up_all.new.bodies) (g.B.StoredBodies.uses c.give_up_all.new.bodies) (c.args.next +ℤ pos 1)
    (λ _. KeyChanged c.args.key.now (KeyDeleted c.args.number c.args.moment)) c.in-Ok.gone.items (rw (to_z-of_z c.ranges.next) at c.in-Ok.ensures.ok) refl
    (rw c.as_slice.ensures.value at c.give_up_all.ensures.uses) c.give_up_all.ensures.contents

pub returns-in-Err-clause-changes : goal.returns-in-Err-clause-changes
returns-in-Err-clause-changes g c =
    rw c.in-Err.ensures.err (is_same (g.R.StoredRows.tables c.args.rows.now) (g.B.StoredBodies.contents c.args.bodies.now) (g.B.StoredBodies.uses c.args.bodies.now) c.args.next c.requires.kept c.args.bucket.now (KeyChanged c.args.key.now (KeyDeleted c.args.number c.args.moment)) c.in-Err.failed)
