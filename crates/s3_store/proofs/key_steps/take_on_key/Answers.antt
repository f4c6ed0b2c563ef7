use Rattle.s3_store.proofs.key_steps.take_on_key.Goals as goal

pub returns-in-Ok-Some-clause-stays : goal.returns-in-Ok-Some-clause-stays
returns-in-Ok-Some-clause-stays g c = λ known is. c.take_in_bucket.ensures.stays known (c.bucket.ensures.stays known is)
