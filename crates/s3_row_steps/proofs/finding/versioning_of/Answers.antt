use Rattle.std.proofs.Common.{sym, ap, ◌∙◌, find, option_map}
use Rattle.s3_rows.specs.Finding.{is_named}
use Rattle.s3_stored_bodies.proofs.HeldLemmas.{if_ok}
use Rattle.s3_stored_rows.specs.Bodies.{encoding}
use Rattle.s3_stored_rows.specs.Changes.{bucket_columns}
use Rattle.s3_row_steps.proofs.FindingLemmas.{mode_told, versioning_told}
use Rattle.s3_row_steps.proofs.finding.versioning_of.Goals as goal

pub returns-in-Some-clause-value : goal.returns-in-Some-clause-value
returns-in-Some-clause-value g c =
    let t = g.R.StoredRows.tables c.args.rows.now in
    if_ok c.versioning_in.result
    (λ versioning is contents. versioning_told (encoding contents) t c.args.bucket.now
    ∙ ap (mode_told (encoding contents)) (sym (c.in_ok-bucket.ensures.value ∙ ap (λ name. find (is_named name) t.buckets) c.as_bytes.ensures.value) ∙ ap (option_map bucket_columns) c.in-Some.is) ∙ is)
    c.versioning_in.ensures
