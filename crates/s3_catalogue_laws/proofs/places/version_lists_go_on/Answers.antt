use Rattle.s3_catalogue_laws.proofs.VersionOrderLemmas.{versions_are_ordered}
use Rattle.s3_catalogue_laws.proofs.VersionPlaceLemmas.{versions_stand_from, versions_stand_behind, versions_are_ends}
use Rattle.s3_catalogue_laws.proofs.places.version_lists_go_on.Goals as goal

pub returns-clause-ordered : goal.returns-clause-ordered
returns-clause-ordered g c = versions_are_ordered

pub returns-clause-keys : goal.returns-clause-keys
returns-clause-keys g c = versions_stand_from

pub returns-clause-behind : goal.returns-clause-behind
returns-clause-behind g c = versions_stand_behind

pub returns-clause-ends : goal.returns-clause-ends
returns-clause-ends g c = versions_are_ends
