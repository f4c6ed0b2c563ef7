use Rattle.std.proofs.Common.{◌∙◌}
use Rattle.std.proofs.lemmas.Result.{IfOk-weaker}
use Rattle.s3_stored_rows.specs.Bodies.{encoding}
use Rattle.s3_row_lists.proofs.VersionListLemmas.{listed_at, listed_past}
use Rattle.s3_row_lists.proofs.versions.versions_from.Goals as goal

pub returns-in-At-clause-value : goal.returns-in-At-clause-value
returns-in-At-clause-value g c = λ contents.
    IfOk-weaker c.versions_at.result _ _
    (λ told is. is ∙ listed_at (encoding contents) (g.R.StoredRows.tables c.args.rows.now) c.args.bucket.now c.as_bytes.result.now c.in-At.start c.args.start.now c.args.most c.requires c.as_bytes.ensures.value c.in-At.is)
    (c.versions_at.ensures.value contents)

pub returns-in-BehindVersion-clause-value : goal.returns-in-BehindVersion-clause-value
returns-in-BehindVersion-clause-value g c = λ contents.
    IfOk-weaker c.versions_past.result _ _
    (λ told is. is ∙ listed_past (encoding contents) (g.R.StoredRows.tables c.args.rows.now) c.args.bucket.now c.in-BehindVersion.key c.as_bytes-bucket.result.now c.as_bytes-in-BehindVersion.result.now c.in-BehindVersion.id c.args.start.now c.args.most
    c.requires c.as_bytes-bucket.ensures.value c.as_bytes-in-BehindVersion.ensures.value c.in-BehindVersion.is)
    (c.versions_past.ensures.value contents)
