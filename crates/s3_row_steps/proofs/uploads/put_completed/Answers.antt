use Rattle.std.proofs.Common.{ap, ◌∙◌, pos}
use Rattle.s3_rows.specs.Columns.{Tables}
use Rattle.s3_rows.specs.TableChanges.{version_put, upload_dropped}
use Rattle.s3_stored_rows.specs.Changes.{version_columns}
use Rattle.s3_row_steps.proofs.uploads.put_completed.Goals as goal

pub returns-clause-ok : goal.returns-clause-ok
returns-clause-ok g c = (
  c.in_ok-put_replacing.ensures.ok
      ∙ ap (λ (t : Tables). upload_dropped c.args.bucket.now c.args.key.now (pos c.args.id) (version_put (version_columns c.args.version) t)) c.in_ok-gone.ensures.same,
  c.in_ok-gone.ensures.numbers,
)
