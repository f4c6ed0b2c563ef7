use Rattle.s3_transfer_chunks.proofs.FinalLemmas.{ends_decide, no_more_taken, verdicts_stay}
use Rattle.s3_transfer_chunks.proofs.finality.verdicts_are_final.Goals as goal

pub returns : goal.returns
returns c = record { stay = verdicts_stay; taken = no_more_taken; end = ends_decide }
