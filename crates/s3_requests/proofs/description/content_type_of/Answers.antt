use Rattle.s3_requests.specs.Description.{content_type_of}
use Rattle.s3_requests.proofs.description.content_type_of.Goals as goal

pub returns : goal.returns
unfolding content_type_of
returns c = rw (← c.first.ensures, ← c.type_sent.ensures) c.read.ensures
