use Rattle.s3_listings.proofs.PageLemmas.{listed_are_keys, listed_are_read}
use Rattle.s3_listings.proofs.laws.listed_keys_are_read.Goals as goal

pub returns-clause-rows : goal.returns-clause-rows
returns-clause-rows g c = listed_are_keys

pub returns-clause-read : goal.returns-clause-read
returns-clause-read g c = listed_are_read c.keys_rise.ensures
