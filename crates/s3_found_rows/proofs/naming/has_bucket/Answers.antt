use Rattle.std.proofs.Common.{sym, ap, ◌∙◌, is_some}
use Rattle.sqlite_keyed.proofs.SliceLemmas.{any_is_found, is_some-map}
use Rattle.s3_rows.specs.Finding.{is_named}
use Rattle.s3_stored_rows.specs.Changes.{bucket_columns}
use Rattle.s3_found_rows.proofs.naming.has_bucket.Goals as goal

pub returns-clause-value : goal.returns-clause-value
returns-clause-value g c =
    let t = g.R.StoredRows.tables c.args.rows.now in
    c.is_some.ensures
    ∙ sym (is_some-map bucket_columns c.in_ok-found.found)
    ∙ ap is_some c.in_ok-found.ensures.value
    ∙ sym (any_is_found (is_named c.args.name.now) t.buckets)
