use Rattle.std.proofs.Common.{map, false}
use Rattle.s3_records.specs.Catalogue.{versions_of}
use Rattle.s3_records.specs.Rows.{behind_version, version_row}
use Rattle.s3_rows.specs.Meaning.{catalogue_of}
use Rattle.s3_stored_rows.specs.Bodies.{encoding}
use Rattle.s3_row_lists.proofs.VersionListLemmas.{past_listed}
use Rattle.s3_row_lists.proofs.versions.versions_past.Goals as goal

pub returns-clause-value : goal.returns-clause-value
returns-clause-value g c = λ contents.
    past_listed (encoding contents) (g.R.StoredRows.tables c.args.rows.now) (g.R.StoredRows.tables c.older_found.new.rows) c.args.bucket.now c.args.key.now c.args.most c.in_ok-told.told.items c.add_behind.new.told.items
    (map (version_row c.args.key.now false) (behind_version c.args.id (versions_of (catalogue_of (encoding contents) (g.R.StoredRows.tables c.args.rows.now)) c.args.bucket.now c.args.key.now)))
    c.in_ok-told.ensures.same (c.in_ok-told.ensures.value contents) (c.in_ok-add_behind.ensures.value contents)
