use Rattle.s3_transfer_chunks.proofs.FinalLemmas.{open_incomplete, open_taken}
use Rattle.s3_transfer_chunks.proofs.finality.open_bodies_take_all.Goals as goal

pub returns : goal.returns
returns c = record { taken = open_taken; incomplete = open_incomplete }
