use Rattle.std.proofs.Common.{◌∙◌, rules}
use Rattle.s3_rows.specs.Meaning.{version_of}
use Rattle.s3_stored_rows.specs.Bodies.{encoding}
use Rattle.s3_stored_rows.specs.Changes.{version_columns}
use Rattle.s3_row_values.proofs.ReadingLemmas.{version_told}
use Rattle.s3_row_values.proofs.reading.version_row_from.Goals as goal

pub returns-in-Ok : goal.returns-in-Ok
returns-in-Ok c = λ contents.
    version_told c.args.row.now.key.items c.in-Ok.key c.args.is_latest (version_of (encoding contents) (version_columns c.args.row.now)) c.id_of.result c.in_ok-moment.moment c.in_ok-facts.facts
    (c.in-Ok.ensures ∙ c.as_slice.ensures.value) (c.id_of.ensures contents) (search rules) (c.in_ok-facts.ensures contents)
