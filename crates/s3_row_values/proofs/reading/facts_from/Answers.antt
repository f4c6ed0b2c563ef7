use Rattle.std.proofs.Common.{sym, ◌∙◌}
use Rattle.s3_rows.specs.Meaning.{version_of}
use Rattle.s3_stored_rows.specs.Bodies.{encoding}
use Rattle.s3_stored_rows.specs.Changes.{version_columns}
use Rattle.s3_row_values.proofs.ReadingLemmas.{marker_refused}
use Rattle.s3_row_values.proofs.reading.facts_from.Goals as goal

pub returns-in-None : goal.returns-in-None
returns-in-None c = λ contents.
    let version = version_of (encoding contents) (version_columns c.in-Some.row.now) in
    rw c.in-Some.is (marker_refused c.args.asked version c.marker_refusal.result (sym c.in-None.is ∙ c.in_ok-facts.ensures contents) (c.marker_refusal.ensures version))
