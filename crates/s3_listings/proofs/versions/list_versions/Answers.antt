use Rattle.s3_listings.specs.Versions.{versions_told}
use Rattle.s3_listings.proofs.versions.list_versions.Goals as goal

pub returns-clause-value : goal.returns-clause-value
unfolding versions_told
returns-clause-value g c = rw (c.as_bytes.ensures.value, c.as_bytes-2.ensures.value) at c.page_asked.ensures.value
