use Rattle.s3_listings.proofs.VersionPageLemmas.{version_pages_join}
use Rattle.s3_listings.proofs.laws.version_pages_join.Goals as goal

pub returns : goal.returns
returns g c = version_pages_join
