use Rattle.std.proofs.Common.{subst, ℤ, to_z-of_z}
use Rattle.s3_stored_bodies.proofs.HeldLemmas.{if_ok}
use Rattle.s3_stored_rows.specs.Changes.{version_columns}
use Rattle.s3_row_values.specs.Values.{IsMarkerRow}
use Rattle.s3_row_steps.proofs.VersionStepLemmas.{steps_mark}
use Rattle.s3_row_steps.proofs.versions.mark.Goals as goal

pub returns-clause-ok : goal.returns-clause-ok
returns-clause-ok g c =
    let row = version_columns c.in_ok-marker.marker in
    let is : IsMarkerRow row c.args.next c.args.bucket.now c.args.key.now c.args.versioning c.args.number c.args.moment =
    subst (λ (r : ℤ). IsMarkerRow row r c.args.bucket.now c.args.key.now c.args.versioning c.args.number c.args.moment) (to_z-of_z c.ranges.next) c.in_ok-marker.ensures in
    if_ok c.put_row.result
    (λ gone put. steps_mark (g.R.StoredRows.tables c.args.rows.now) c.args.next c.requires.kept c.args.bucket.now c.args.key.now c.args.versioning c.args.number c.requires.told c.requires.there c.requires.newer
    row is.placed _ c.args.moment gone.items c.requires.versioned is put)
    c.put_row.ensures.ok
