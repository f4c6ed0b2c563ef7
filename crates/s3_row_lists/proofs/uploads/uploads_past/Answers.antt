use Rattle.s3_row_lists.proofs.UploadLemmas.{past_told}
use Rattle.s3_row_lists.proofs.uploads.uploads_past.Goals as goal

pub returns-clause-value : goal.returns-clause-value
returns-clause-value g c =
    past_told c.args.bucket.now c.args.key.now c.args.id c.args.most (g.R.StoredRows.tables c.args.rows.now) (g.R.StoredRows.tables c.above_told.new.rows) c.in_ok-told.told.items c.add_behind.new.told.items
    c.in_ok-told.ensures.same c.in_ok-told.ensures.value c.in_ok-add_behind.ensures.value
