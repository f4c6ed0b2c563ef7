use Rattle.s3_listings.proofs.PageLemmas.{items_rise, items_are_of_keys, keys_are_told_once}
use Rattle.s3_listings.proofs.laws.items_are_distinct.Goals as goal

pub returns-clause-order : goal.returns-clause-order
returns-clause-order c = items_rise

pub returns-clause-keys : goal.returns-clause-keys
returns-clause-keys c = items_are_of_keys

pub returns-clause-once : goal.returns-clause-once
returns-clause-once c = keys_are_told_once
