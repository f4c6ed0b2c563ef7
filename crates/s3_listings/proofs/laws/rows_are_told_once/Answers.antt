use Rattle.s3_listings.proofs.ToldOnceLemmas.{uploads_are_told_once, versions_are_told_once}
use Rattle.s3_listings.proofs.laws.rows_are_told_once.Goals as goal

pub returns : goal.returns
returns g c = record { versions = versions_are_told_once; uploads = uploads_are_told_once c.uploads_are_listed.ensures.follow }
