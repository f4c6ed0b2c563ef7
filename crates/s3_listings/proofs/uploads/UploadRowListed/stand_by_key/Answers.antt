use Rattle.s3_listings.proofs.UploadLemmas.{by_key, behind_marker}
use Rattle.s3_listings.proofs.uploads.UploadRowListed.stand_by_key.Goals as goal

pub returns-clause-order : goal.returns-clause-order
returns-clause-order c = by_key c.uploads_are_listed.ensures.follow

pub returns-clause-behind : goal.returns-clause-behind
returns-clause-behind c = behind_marker c.uploads_are_listed.ensures.follow
