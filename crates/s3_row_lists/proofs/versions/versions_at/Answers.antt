use Rattle.std.proofs.Common.{ap, ◌∙◌, ◌++◌, None, map}
use Rattle.s3_rows.specs.VersionListLaws.{versions_listed}
use Rattle.s3_stored_rows.specs.Bodies.{encoding}
use Rattle.s3_stored_rows.specs.Changes.{version_columns}
use Rattle.s3_row_lists.proofs.StartLemmas.{from_versions}
use Rattle.s3_row_lists.proofs.VersionListLemmas.{found_listed}
use Rattle.s3_row_lists.proofs.versions.versions_at.Goals as goal

pub returns-clause-value : goal.returns-clause-value
returns-clause-value g c = λ contents.
    c.in_ok-add_told.ensures contents
    ∙ ap (λ l. l ++ versions_listed (encoding contents) None (map version_columns c.deref.result.now)) c.new-told.ensures.items
    ∙ found_listed (encoding contents) c.in_ok-limit.limit c.args.most c.in_ok-found.found.items c.deref.result.now (from_versions c.args.bucket.now c.args.start.now (g.R.StoredRows.tables c.args.rows.now))
    c.in_ok-limit.ensures c.deref.ensures.value c.in_ok-found.ensures.value
