use Rattle.std.proofs.Common.{ap, ◌∙◌, pos, SFits, w64, to_z-of_z, rules}
use Rattle.std.proofs.lemmas.Result.{IfOk-weaker}
use Rattle.s3_rows.specs.Columns.{Tables}
use Rattle.s3_rows.specs.TableChanges.{version_put, upload_dropped}
use Rattle.s3_stored_rows.specs.Bodies.{version_numbers}
use Rattle.s3_stored_rows.specs.Changes.{version_columns}
use Rattle.s3_stored_rows.specs.Queries.{version_of_id}
use Rattle.s3_row_changes.specs.Trading.{numbers_of}
use Rattle.s3_row_steps.proofs.CompletionLemmas.{completion_steps}
use Rattle.s3_row_steps.proofs.KeepingLemmas.{small_id}
use Rattle.s3_row_steps.proofs.uploads.complete.Goals as goal

pub returns-clause-ok : goal.returns-clause-ok
returns-clause-ok g c =
    let t = g.R.StoredRows.tables c.args.rows.now in
    let row = version_columns c.in_ok-version.version in
    let fits : SFits w64 row.id = search rules in
    IfOk-weaker c.put_completed.result _ _
    (λ gone put.
    completion_steps t c.args.next c.args.bucket.now c.args.key.now c.args.id c.args.number c.args.moment c.in_ok-versioning.versioning row _ c.args.described.now c.args.numbers.now
    c.requires.kept c.requires.there c.requires.newer c.in_ok-versioning.ensures.value (to_z-of_z c.ranges.next) c.in_ok-version.ensures (small_id row.id fits)
    gone.items (put.1 ∙ ap (λ (s : Tables). numbers_of version_numbers (version_of_id row.bucket row.key row.id s)) c.in_ok-versioning.ensures.same)
    _ (put.0 ∙ ap (λ (s : Tables). upload_dropped c.args.bucket.now c.args.key.now (pos c.args.id) (version_put row s)) c.in_ok-versioning.ensures.same))
    c.put_completed.ensures.ok
