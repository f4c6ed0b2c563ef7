use Rattle.s3_unsigned_chunks.proofs.FinalLemmas.{ends_decide, verdicts_stay}
use Rattle.s3_unsigned_chunks.proofs.finality.verdicts_are_final.Goals as goal

pub returns : goal.returns
returns c = record { stay = verdicts_stay; end = ends_decide }
