use Rattle.s3_catalogue_laws.proofs.PlaceLemmas.{uploads_are_ordered, uploads_stand_from, uploads_stand_behind, uploads_are_ends}
use Rattle.s3_catalogue_laws.proofs.places.upload_lists_go_on.Goals as goal

pub returns-clause-ordered : goal.returns-clause-ordered
returns-clause-ordered g c = uploads_are_ordered c.uploads_are_listed.ensures.follow

pub returns-clause-keys : goal.returns-clause-keys
returns-clause-keys g c = uploads_stand_from

pub returns-clause-behind : goal.returns-clause-behind
returns-clause-behind g c = uploads_stand_behind

pub returns-clause-ends : goal.returns-clause-ends
returns-clause-ends g c = uploads_are_ends c.uploads_are_listed.ensures.follow
