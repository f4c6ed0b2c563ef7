use Rattle.std.proofs.Common.{to_z-of_z, ap, subst, ◌∙◌, ℕ, List, flat_map, option_map, ◌+ℤ◌, pos}
use Rattle.std.specs.Option.{option_copied}
use Rattle.s3_versions.specs.Rules.{VersionPut}
use Rattle.s3_records.specs.Changes.{UploadCompleted}
use Rattle.s3_stored_bodies.specs.Numbers.{bytes_under}
use Rattle.s3_stored_rows.specs.Changes.{upload_columns}
use Rattle.s3_table_records.specs.Kept.{kept, Changes}
use Rattle.s3_table_records.proofs.DataLemmas.{data_of}
use Rattle.s3_table_records.proofs.KeptLemmas.{is_same}
use Rattle.s3_table_records.proofs.ListedLemmas.{listed_counted, joined_is}
use Rattle.s3_table_records.proofs.completion.complete_listed.Goals as goal

pub returns-in-Err-clause-changes : goal.returns-in-Err-clause-changes
returns-in-Err-clause-changes g c = λ bytes is.
    rw c.in-Err.ensures.same
    (is_same (g.R.StoredRows.tables c.args.rows.now) (g.B.StoredBodies.contents c.args.bodies.now) (g.B.StoredBodies.uses c.args.bodies.now) c.args.next c.requires.kept c.args.bucket.now _ _)

pub complete_found-requires-clause-listed : goal.complete_found-requires-clause-listed
complete_found-requires-clause-listed g c =
    rw (c.deref.ensures.value, c.in-Ok.ensures.names)
    (listed_counted (g.R.StoredRows.tables c.args.rows.now) (g.B.StoredBodies.uses c.args.bodies.now) c.requires.kept.named (option_copied c.as_ref.result) c.args.listed.now)

-- the bytes of the parts that are listed are those that are to be stored
pub returns-clause-changes : goal.returns-clause-changes
returns-clause-changes g c = λ bytes is.
    let t = g.R.StoredRows.tables c.args.rows.now in
    let contents = g.B.StoredBodies.contents c.args.bodies.now in
    let same = ap (flat_map (bytes_under contents)) (c.deref.ensures.value ∙ c.in-Ok.ensures.names)
    ∙ joined_is contents t c.requires.kept.rows.sound c.rows_tell_uploads.ensures.one c.args.bucket.now c.args.key.now c.args.id c.args.listed.now bytes is (option_copied c.as_ref.result)
    (ap (option_map (λ u. upload_columns u.upload)) c.as_ref.ensures.value ∙ c.requires.found) in
    subst (λ (b : List ℕ). Changes (kept t contents (g.B.StoredBodies.uses c.args.bodies.now) c.args.next)
    (kept (g.R.StoredRows.tables c.complete_found.new.rows) (g.B.StoredBodies.contents c.complete_found.new.bodies) (g.B.StoredBodies.uses c.complete_found.new.bodies) (c.args.next +ℤ pos 1))
    c.args.bucket.now (UploadCompleted c.args.key.now c.args.id (VersionPut c.args.number c.args.moment (data_of c.args.described.now b))) c.complete_found.result)
    same (rw (to_z-of_z c.ranges.next, c.in-Ok.ensures.same) at c.complete_found.ensures.changes)
