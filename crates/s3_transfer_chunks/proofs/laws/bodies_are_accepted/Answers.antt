use Rattle.s3_transfer_chunks.proofs.AcceptLemmas.{accepted_body}
use Rattle.s3_transfer_chunks.proofs.WholeLemmas.{body_accepted, body_large}
use Rattle.s3_transfer_chunks.proofs.laws.bodies_are_accepted.Goals as goal

pub returns : goal.returns
returns c = record { accepted = accepted_body; bodies = body_accepted; large = body_large }
