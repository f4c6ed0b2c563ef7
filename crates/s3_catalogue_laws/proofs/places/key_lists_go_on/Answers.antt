use Rattle.s3_catalogue_laws.proofs.PlaceLemmas.{keys_stand_from, keys_are_ends}
use Rattle.s3_catalogue_laws.proofs.places.key_lists_go_on.Goals as goal

pub returns-clause-keys : goal.returns-clause-keys
returns-clause-keys g c = keys_stand_from

pub returns-clause-ends : goal.returns-clause-ends
returns-clause-ends g c = keys_are_ends
