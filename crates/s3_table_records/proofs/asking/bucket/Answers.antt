use Rattle.std.proofs.Common.{sym, ap, ◌∙◌, Some, find, option_map}
use Rattle.s3_rows.specs.Finding.{is_named}
use Rattle.s3_rows.specs.ReadingLaws.{row_facts}
use Rattle.s3_stored_rows.specs.Bodies.{encoding}
use Rattle.s3_stored_rows.specs.Changes.{bucket_columns}
use Rattle.s3_table_records.proofs.asking.bucket.Goals as goal

pub returns-in_ok-facts-in-Some-clause-value : goal.returns-in_ok-facts-in-Some-clause-value
returns-in_ok-facts-in-Some-clause-value g c = λ contents.
    let t = g.R.StoredRows.tables c.args.rows.now in
    ap Some (c.in_ok-facts-in-Some.ensures contents)
    ∙ ap (option_map (row_facts (encoding contents))) (sym (ap (option_map bucket_columns) c.in-Some.is) ∙ c.in_ok-bucket.ensures.value ∙ ap (λ name. find (is_named name) t.buckets) c.as_bytes.ensures.value)
    ∙ sym (c.rows_tell_buckets.ensures.facts (encoding contents) t c.args.name.now)
