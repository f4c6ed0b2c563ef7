use Rattle.s3_listings.proofs.VersionLemmas.{by_key, behind_marker}
use Rattle.s3_listings.proofs.versions.VersionRowListed.stand_by_key.Goals as goal

pub returns-clause-order : goal.returns-clause-order
returns-clause-order c = by_key

pub returns-clause-behind : goal.returns-clause-behind
returns-clause-behind c = behind_marker
