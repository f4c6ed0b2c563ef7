use Rattle.std.proofs.Common.{subst, ℤ, to_z-of_z}
use Rattle.s3_stored_bodies.proofs.HeldLemmas.{if_ok}
use Rattle.s3_stored_rows.specs.Changes.{version_columns}
use Rattle.s3_row_values.specs.Values.{IsVersionRow}
use Rattle.s3_row_steps.proofs.VersionStepLemmas.{steps_put, same_put}
use Rattle.s3_row_steps.proofs.versions.put_version.Goals as goal

pub returns-clause-ok : goal.returns-clause-ok
returns-clause-ok g c =
    let t = g.R.StoredRows.tables c.args.rows.now in
    let row = version_columns c.in_ok-version.version in
    let versioning = c.in_ok-versioning.versioning in
    let is : IsVersionRow row c.args.next c.args.bucket.now c.args.key.now versioning c.args.number c.args.moment c.args.described.now c.args.numbers.now =
    subst (λ (r : ℤ). IsVersionRow row r c.args.bucket.now c.args.key.now versioning c.args.number c.args.moment c.args.described.now c.args.numbers.now) (to_z-of_z c.ranges.next) c.in_ok-version.ensures in
    if_ok c.put_row.result
    (λ gone put. steps_put t c.args.next c.requires.kept c.args.bucket.now c.args.key.now versioning c.args.number c.in_ok-versioning.ensures.value c.requires.there c.requires.newer
    row is.placed _ c.args.moment c.args.described.now gone.items c.args.numbers.now is (same_put _ _ _ _ _ c.versioning_of.ensures.same put))
    c.put_row.ensures.ok
