use Rattle.s3_catalogue_laws.proofs.KeyRowLemmas.{keys_are_listed, marked_keys_are_listed, listed_keys_have_versions}
use Rattle.s3_catalogue_laws.proofs.lists.keys_are_listed.Goals as goal

pub returns-clause-listed : goal.returns-clause-listed
returns-clause-listed g c = keys_are_listed

pub returns-clause-marked : goal.returns-clause-marked
returns-clause-marked g c = marked_keys_are_listed

pub returns-clause-versions : goal.returns-clause-versions
returns-clause-versions g c = listed_keys_have_versions
