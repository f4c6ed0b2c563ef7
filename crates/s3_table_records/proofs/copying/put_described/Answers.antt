use Rattle.std.proofs.Common.{to_z-of_z, ap, subst, ◌∙◌, ℕ, List, ◌+ℤ◌, pos}
use Rattle.s3_versions.specs.Rules.{VersionPut}
use Rattle.s3_records.specs.Changes.{KeyChanged}
use Rattle.s3_stored_rows.specs.Bodies.{numbers_named}
use Rattle.s3_row_values.specs.Values.{bytes_of}
use Rattle.s3_table_records.specs.Kept.{kept, Changes}
use Rattle.s3_table_records.proofs.CountedLemmas.{all_counted}
use Rattle.s3_table_records.proofs.DataLemmas.{data_of}
use Rattle.s3_table_records.proofs.KeptLemmas.{is_same}
use Rattle.s3_table_records.proofs.copying.put_described.Goals as goal

pub returns-in-Err-clause-changes : goal.returns-in-Err-clause-changes
returns-in-Err-clause-changes g c = λ bytes is.
    rw c.in-Err.ensures.same
    (is_same (g.R.StoredRows.tables c.args.rows.now) (g.B.StoredBodies.contents c.args.bodies.now) (g.B.StoredBodies.uses c.args.bodies.now) c.args.next c.requires.kept c.args.bucket.now _ _)

pub put_shared-requires-clause-names : goal.put_shared-requires-clause-names
put_shared-requires-clause-names g c =
    rw c.deref.ensures.value
    (all_counted (g.B.StoredBodies.uses c.args.bodies.now) (numbers_named (g.R.StoredRows.tables c.args.rows.now)) c.in-Ok.names.items c.requires.kept.named c.in-Ok.ensures.counted)

-- the bytes of the source are those that are to be stored
pub returns-clause-changes : goal.returns-clause-changes
returns-clause-changes g c = λ bytes is.
    let t = g.R.StoredRows.tables c.args.rows.now in
    let contents = g.B.StoredBodies.contents c.args.bodies.now in
    let same = ap (bytes_of contents) c.deref.ensures.value ∙ c.in-Ok.ensures.bytes contents bytes is in
    subst (λ (b : List ℕ). Changes (kept t contents (g.B.StoredBodies.uses c.args.bodies.now) c.args.next)
    (kept (g.R.StoredRows.tables c.put_shared.new.rows) (g.B.StoredBodies.contents c.put_shared.new.bodies) (g.B.StoredBodies.uses c.put_shared.new.bodies) (c.args.next +ℤ pos 1))
    c.args.bucket.now (KeyChanged c.args.key.now (VersionPut c.args.number c.args.moment (data_of c.args.described.now b))) c.put_shared.result)
    same (rw (to_z-of_z c.ranges.next, c.in-Ok.ensures.same) at c.put_shared.ensures.changes)
