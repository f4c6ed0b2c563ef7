use Rattle.std.proofs.Common.{◌∙◌}
use Rattle.s3_store.proofs.list_steps.tell_objects.Goals as goal

pub returns-in-Ok-Some-clause-same : goal.returns-in-Ok-Some-clause-same
returns-in-Ok-Some-clause-same g c = c.tell_objects_of.ensures.same ∙ c.bucket.ensures.same

pub returns-in-Ok-Some-clause-stays : goal.returns-in-Ok-Some-clause-stays
returns-in-Ok-Some-clause-stays g c = λ known is. c.tell_objects_of.ensures.stays known (c.bucket.ensures.stays known is)
