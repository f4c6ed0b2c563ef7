use Rattle.s3_listings.proofs.UploadLemmas.{upload_pages_join}
use Rattle.s3_listings.proofs.laws.upload_pages_join.Goals as goal

pub returns : goal.returns
returns g c = upload_pages_join c.uploads_are_listed.ensures.follow
