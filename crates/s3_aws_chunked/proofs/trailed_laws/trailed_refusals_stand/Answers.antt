use Rattle.s3_aws_chunked.proofs.TrailedFinalLemmas.{refused_front, refused_within}
use Rattle.s3_aws_chunked.proofs.trailed_laws.trailed_refusals_stand.Goals as goal

pub returns : goal.returns
returns c = record { stand = refused_front; within = refused_within }
