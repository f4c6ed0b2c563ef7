use Rattle.std.proofs.Common.{sym, ◌∙◌}
use Rattle.s3_row_lists.proofs.UploadLemmas.{no_upload}
use Rattle.s3_row_lists.proofs.parts.large_row.Goals as goal

pub returns-then-is_empty-clause-value : goal.returns-then-is_empty-clause-value
returns-then-is_empty-clause-value g c =
    no_upload c.args.bucket.now c.args.key.now c.args.id (g.R.StoredRows.tables c.args.rows.now) c.in_ok-found.found.items c.in_ok-found.found.len c.requires
    c.in_ok-found.found.ok.0 (sym c.is_empty.ensures ∙ c.if-is_empty.true) c.in_ok-found.ensures.value
