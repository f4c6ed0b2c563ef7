use Rattle.s3_aws_chunked.proofs.TrailedBodyLemmas.{accepted_body, body_accepted, refused_none}
use Rattle.s3_aws_chunked.proofs.trailed_laws.trailed_bodies_are_accepted.Goals as goal

pub returns : goal.returns
returns c = record { accepted = accepted_body; bodies = body_accepted; refused = refused_none }
