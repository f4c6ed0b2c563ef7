use Rattle.s3_store.proofs.upload_steps.abort.Goals as goal

pub returns-in_err-gone-clause-stays : goal.returns-in_err-gone-clause-stays
returns-in_err-gone-clause-stays g c = λ known is. c.drop_upload.ensures.stays known (c.has_upload.ensures.stays known is)

pub returns-clause-stays : goal.returns-clause-stays
returns-clause-stays g c = λ known is. c.drop_upload.ensures.stays known (c.has_upload.ensures.stays known is)
