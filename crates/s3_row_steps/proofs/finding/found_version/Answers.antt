use Rattle.std.proofs.Common.{sym, ap, ap₂, ◌∙◌}
use Rattle.s3_versions.specs.Rules.{asked_for}
use Rattle.s3_records.specs.Catalogue.{versions_of}
use Rattle.s3_rows.specs.Meaning.{catalogue_of}
use Rattle.s3_stored_bodies.proofs.HeldLemmas.{if_ok}
use Rattle.s3_stored_rows.specs.Bodies.{encoding}
use Rattle.s3_stored_rows.specs.Queries.{newest_version}
use Rattle.s3_row_steps.proofs.FindingLemmas.{current_told, named_told}
use Rattle.s3_row_steps.proofs.finding.found_version.Goals as goal

pub returns-in-None-clause-value : goal.returns-in-None-clause-value
returns-in-None-clause-value g c = λ contents.
    let t = g.R.StoredRows.tables c.args.rows.now in
    if_ok c.newest.result
    (λ found is. current_told (encoding contents) t c.requires.kept.1.sound c.args.bucket.now c.args.key.now found
    (is ∙ ap₂ (λ b k. newest_version b k t) c.as_bytes.ensures.value c.as_bytes-in-None.ensures.value)
    ∙ ap (λ asked. asked_for asked (versions_of (catalogue_of (encoding contents) t) c.args.bucket.now c.args.key.now)) (sym c.in-None.is))
    c.newest.ensures.value

pub returns-in-Some-clause-value : goal.returns-in-Some-clause-value
returns-in-Some-clause-value g c = λ contents.
    let t = g.R.StoredRows.tables c.args.rows.now in
    if_ok c.version_under.result
    (λ found is. named_told (encoding contents) t c.requires.kept.1.sound c.args.bucket.now c.args.key.now found c.in-Some.id is
    ∙ ap (λ asked. asked_for asked (versions_of (catalogue_of (encoding contents) t) c.args.bucket.now c.args.key.now)) (sym c.in-Some.is))
    c.version_under.ensures.value
