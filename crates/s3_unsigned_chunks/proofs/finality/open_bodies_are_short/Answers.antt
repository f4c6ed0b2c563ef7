use Rattle.s3_unsigned_chunks.proofs.FinalLemmas.{open_incomplete, open_short}
use Rattle.s3_unsigned_chunks.proofs.finality.open_bodies_are_short.Goals as goal

pub returns : goal.returns
returns c = record { short = open_short; incomplete = open_incomplete }
