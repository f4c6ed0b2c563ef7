use Rattle.s3_store.proofs.completing.join.Goals as goal

pub returns-in-Ok-clause-stays : goal.returns-in-Ok-clause-stays
returns-in-Ok-clause-stays g c = λ known is. c.put_joined.ensures.stays known (c.completed.ensures.stays known is)
