use Rattle.s3_listings.proofs.PageLemmas.{pages_join}
use Rattle.s3_listings.proofs.laws.pages_join.Goals as goal

pub returns : goal.returns
returns c = pages_join
