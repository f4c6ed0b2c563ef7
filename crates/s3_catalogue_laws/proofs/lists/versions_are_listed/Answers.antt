use Rattle.s3_catalogue_laws.proofs.VersionRowLemmas.{versions_are_listed, markers_are_told}
use Rattle.s3_catalogue_laws.proofs.lists.versions_are_listed.Goals as goal

pub returns-clause-listed : goal.returns-clause-listed
returns-clause-listed g c = versions_are_listed

pub returns-clause-markers : goal.returns-clause-markers
returns-clause-markers g c = markers_are_told
