use Rattle.s3_listings.specs.Uploads.{uploads_told}
use Rattle.s3_listings.proofs.uploads.list_uploads.Goals as goal

pub returns-clause-value : goal.returns-clause-value
unfolding uploads_told
returns-clause-value g c = rw (c.as_bytes.ensures.value, c.as_bytes-2.ensures.value) at c.page_asked.ensures.value
