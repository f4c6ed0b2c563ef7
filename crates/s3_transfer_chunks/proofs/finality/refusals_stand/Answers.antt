use Rattle.s3_transfer_chunks.proofs.FinalLemmas.{refused_first, refused_front, refused_within}
use Rattle.s3_transfer_chunks.proofs.finality.refusals_stand.Goals as goal

pub returns : goal.returns
returns c = record { stand = refused_front; first = refused_first; within = refused_within }
