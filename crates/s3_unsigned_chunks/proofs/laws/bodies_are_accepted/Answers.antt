use Rattle.s3_unsigned_chunks.proofs.AcceptLemmas.{accepted_body}
use Rattle.s3_unsigned_chunks.proofs.WholeLemmas.{body_accepted, refused_none}
use Rattle.s3_unsigned_chunks.proofs.laws.bodies_are_accepted.Goals as goal

pub returns : goal.returns
returns c = record { accepted = accepted_body; bodies = body_accepted; refused = refused_none }
