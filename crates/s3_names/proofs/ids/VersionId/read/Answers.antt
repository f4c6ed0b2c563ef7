use Rattle.std.proofs.Common.{◌∙◌}
use Rattle.s3_names.proofs.IdLemmas.{version_back}
use Rattle.s3_names.proofs.ids.VersionId.read.Goals as goal

pub returns-clause-found : goal.returns-clause-found
returns-clause-found c = λ id small e. c.read_version.ensures.value ∙ version_back id _ e small
