use Rattle.std.proofs.Common.{subst, ℤ, to_z-of_z}
use Rattle.std.proofs.lemmas.Result.{on_ok_weaker}
use Rattle.s3_versions.specs.declared.version.Versioning.TheVariants.{Unversioned}
use Rattle.s3_stored_rows.specs.Changes.{bucket_columns}
use Rattle.s3_row_values.specs.Values.{IsBucketRow}
use Rattle.s3_row_steps.proofs.BucketStepLemmas.{steps_added}
use Rattle.s3_row_steps.proofs.buckets.add_bucket.Goals as goal

pub returns-clause-ok : goal.returns-clause-ok
returns-clause-ok g c =
    let row = bucket_columns c.in_ok-row.row in
    let is : IsBucketRow row c.args.next c.args.name.now c.args.moment Unversioned = subst (λ (r : ℤ). IsBucketRow row r c.args.name.now c.args.moment Unversioned) (to_z-of_z c.ranges.next) c.in_ok-row.ensures in
    on_ok_weaker c.apply.result
    (λ made. steps_added (g.R.StoredRows.tables c.args.rows.now) c.args.next c.requires.kept _ row c.args.name.now c.args.moment is c.requires.new made)
    c.apply.ensures.ok
