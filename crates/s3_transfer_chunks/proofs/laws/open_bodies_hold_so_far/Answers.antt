use Rattle.s3_transfer_chunks.proofs.HoldLemmas.{open_holds}
use Rattle.s3_transfer_chunks.proofs.laws.open_bodies_hold_so_far.Goals as goal

pub returns : goal.returns
returns c = open_holds
