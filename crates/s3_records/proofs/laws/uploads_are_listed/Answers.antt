use Rattle.s3_records.proofs.UploadRowLemmas.{uploads_are_listed, uploads_follow}
use Rattle.s3_records.proofs.laws.uploads_are_listed.Goals as goal

pub returns-clause-listed : goal.returns-clause-listed
returns-clause-listed g c = uploads_are_listed

pub returns-clause-follow : goal.returns-clause-follow
returns-clause-follow g c = uploads_follow
