use Rattle.s3_unsigned_chunks.proofs.FinalLemmas.{refused_front, refused_within}
use Rattle.s3_unsigned_chunks.proofs.finality.refusals_stand.Goals as goal

pub returns : goal.returns
returns c = record { stand = refused_front; within = refused_within }
