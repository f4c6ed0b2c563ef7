use Rattle.std.proofs.Common.{ap, ◌∙◌, option_map}
use Rattle.s3_stored_bodies.proofs.HeldLemmas.{if_ok}
use Rattle.s3_stored_rows.specs.Bodies.{version_numbers, numbers_named}
use Rattle.s3_stored_rows.specs.Changes.{version_columns}
use Rattle.s3_row_values.specs.Values.{bytes_of}
use Rattle.s3_row_changes.specs.Trading.{numbers_of}
use Rattle.s3_table_records.proofs.CopyLemmas.{source_counted, source_bytes}
use Rattle.s3_table_records.proofs.copying.source_names.Goals as goal

pub returns-clause-counted : goal.returns-clause-counted
returns-clause-counted g c =
    let named = numbers_named (g.R.StoredRows.tables c.args.rows.now) in
    if_ok c.version_names.result
    (λ names is.
    let at = is ∙ ap (λ found. numbers_of version_numbers (option_map version_columns found)) c.as_ref.ensures.value in
    rw at (source_counted named c.in-Ok.row c.in-Ok.ensures.counted))
    c.version_names.ensures

pub returns-clause-bytes : goal.returns-clause-bytes
returns-clause-bytes g c = λ contents bytes copied.
    let t = g.R.StoredRows.tables c.args.rows.now in
    if_ok c.version_names.result
    (λ names is.
    ap (bytes_of contents) (is ∙ ap (λ found. numbers_of version_numbers (option_map version_columns found)) c.as_ref.ensures.value)
    ∙ source_bytes contents t c.args.bucket.now c.args.key.now c.args.asked c.in-Ok.row (c.in-Ok.ensures.value contents) bytes copied)
    c.version_names.ensures
