use Rattle.s3_aws_chunked.proofs.FinalLemmas.{ends_decide, verdicts_exist, verdicts_one, verdicts_stay}
use Rattle.s3_aws_chunked.proofs.finality.verdicts_are_final.Goals as goal

pub returns : goal.returns
returns c = record { stay = verdicts_stay; one = verdicts_one; exist = verdicts_exist; end = ends_decide }
