use Rattle.std.proofs.Common.{ap₂, ◌∙◌}
use Rattle.std.proofs.lemmas.Result.{on_ok_weaker}
use Rattle.s3_rows.specs.TableChanges.{bucket_dropped}
use Rattle.s3_row_steps.proofs.BucketStepLemmas.{steps_dropped}
use Rattle.s3_row_steps.proofs.buckets.drop_bucket.Goals as goal

pub returns-clause-ok : goal.returns-clause-ok
returns-clause-ok g c =
    on_ok_weaker c.drop_bucket.result
    (λ made. steps_dropped (g.R.StoredRows.tables c.args.rows.now) c.args.next c.requires.kept _ c.args.name.now c.requires.there c.requires.empty
    (made ∙ ap₂ bucket_dropped c.as_bytes-bytes.ensures.value c.bucket.ensures.same))
    c.drop_bucket.ensures.ok
