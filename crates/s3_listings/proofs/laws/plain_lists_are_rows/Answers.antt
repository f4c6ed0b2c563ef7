use Rattle.s3_listings.proofs.PlainLemmas.{plain_versions_are_rows, plain_uploads_are_rows}
use Rattle.s3_listings.proofs.laws.plain_lists_are_rows.Goals as goal

pub returns : goal.returns
returns g c = record { versions = plain_versions_are_rows; uploads = plain_uploads_are_rows }
