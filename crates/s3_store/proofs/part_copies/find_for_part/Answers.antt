use Rattle.std.proofs.Common.{◌∙◌}
use Rattle.s3_store.proofs.part_copies.find_for_part.Goals as goal

pub returns-clause-same : goal.returns-clause-same
returns-clause-same g c = c.find_source.ensures.same ∙ c.has_upload.ensures.same

pub returns-clause-stays : goal.returns-clause-stays
returns-clause-stays g c = λ known is. c.find_source.ensures.stays known (c.has_upload.ensures.stays known is)
