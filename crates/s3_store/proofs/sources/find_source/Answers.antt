use Rattle.std.proofs.Common.{◌∙◌}
use Rattle.s3_store.proofs.sources.find_source.Goals as goal

pub returns-in-Some-clause-same : goal.returns-in-Some-clause-same
returns-in-Some-clause-same g c = c.find_in_bucket.ensures.same ∙ c.bucket.ensures.same

pub returns-in-Some-clause-stays : goal.returns-in-Some-clause-stays
returns-in-Some-clause-stays g c = λ known is. c.find_in_bucket.ensures.stays known (c.bucket.ensures.stays known is)
