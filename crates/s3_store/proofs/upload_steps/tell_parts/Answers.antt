use Rattle.std.proofs.Common.{◌∙◌}
use Rattle.s3_store.proofs.upload_steps.tell_parts.Goals as goal

pub returns-in_err-document-clause-same : goal.returns-in_err-document-clause-same
returns-in_err-document-clause-same g c = c.parts_told_of.ensures.same ∙ c.has_upload.ensures.same

pub returns-clause-same : goal.returns-clause-same
returns-clause-same g c = c.parts_told_of.ensures.same ∙ c.has_upload.ensures.same

pub returns-in_err-document-clause-stays : goal.returns-in_err-document-clause-stays
returns-in_err-document-clause-stays g c = λ known is. c.parts_told_of.ensures.stays known (c.has_upload.ensures.stays known is)

pub returns-clause-stays : goal.returns-clause-stays
returns-clause-stays g c = λ known is. c.parts_told_of.ensures.stays known (c.has_upload.ensures.stays known is)
