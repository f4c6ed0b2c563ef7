use Rattle.s3_listings.proofs.PartLemmas.{part_pages_join}
use Rattle.s3_listings.proofs.laws.part_pages_join.Goals as goal

pub returns : goal.returns
returns g c = part_pages_join
