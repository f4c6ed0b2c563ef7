use Rattle.std.proofs.Common.{sym, ◌∙◌}
use Rattle.s3_row_lists.proofs.UploadLemmas.{none_above}
use Rattle.s3_row_lists.proofs.uploads.found_above.Goals as goal

pub returns-then-is_empty-clause-value : goal.returns-then-is_empty-clause-value
returns-then-is_empty-clause-value g c =
    none_above c.args.bucket.now c.args.key.now c.args.id c.args.limit (g.R.StoredRows.tables c.args.rows.now) c.in_ok-found-in-None.found.items c.in_ok-found-in-None.found.len c.in-None.ensures
    c.in_ok-found-in-None.found.ok.0 (sym c.is_empty.ensures ∙ c.if-is_empty.true) c.in_ok-found-in-None.ensures.value
