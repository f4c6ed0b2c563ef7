use Rattle.std.proofs.Common.{◌≡◌, sym, ap, ap₂, ◌∙◌, Some, option_map, SFits, w64, to_z-of_z, rules}
use Rattle.std.proofs.lemmas.Result.{on_ok_weaker}
use Rattle.s3_rows.specs.Columns.{BucketColumns}
use Rattle.s3_rows.specs.Soundness.{bucket_row}
use Rattle.s3_rows.specs.TableChanges.{bucket_replaced}
use Rattle.s3_stored_rows.specs.Changes.{bucket_columns}
use Rattle.s3_stored_rows.specs.Queries.{bucket_named}
use Rattle.s3_row_steps.proofs.BucketStepLemmas.{with_mode, goes_by_row, steps_set}
use Rattle.s3_row_steps.proofs.buckets.set_versioning.Goals as goal

pub replace_bucket-requires-clause-gone : goal.replace_bucket-requires-clause-gone
replace_bucket-requires-clause-gone g c =
    let t = g.R.StoredRows.tables c.args.rows.now in
    let old = bucket_columns c.in-Some.old in
    let fits : SFits w64 c.in-Some.old.row = search rules in
    let found : bucket_named c.args.name.now t ≡ Some old =
    sym (c.in_ok-old.ensures.value ∙ ap (λ n. bucket_named n t) c.as_bytes.ensures.value) ∙ ap (option_map bucket_columns) c.in-Some.is in
    ap (λ u. option_map bucket_row (bucket_named c.with_versioning-row.result.name.items u)) c.bucket.ensures.same
    ∙ goes_by_row t c.args.name.now c.with_versioning-row.result.name.items old _ found (ap (λ (b : BucketColumns). b.name) c.with_versioning-row.ensures) (to_z-of_z fits)

pub returns-clause-ok : goal.returns-clause-ok
returns-clause-ok g c =
    let t = g.R.StoredRows.tables c.args.rows.now in
    let old = bucket_columns c.in-Some.old in
    let found : bucket_named c.args.name.now t ≡ Some old =
    sym (c.in_ok-old.ensures.value ∙ ap (λ n. bucket_named n t) c.as_bytes.ensures.value) ∙ ap (option_map bucket_columns) c.in-Some.is in
    on_ok_weaker c.replace_bucket.result
    (λ made. steps_set t c.args.next c.requires.kept _ old c.args.name.now c.args.status found
    (made ∙ ap₂ bucket_replaced (c.with_versioning-row.ensures ∙ ap (λ r. with_mode old r c.args.status) (to_z-of_z c.ranges.next)) c.bucket.ensures.same))
    c.replace_bucket.ensures.ok
