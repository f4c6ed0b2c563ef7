use Rattle.s3_aws_chunked.proofs.TrailedFinalLemmas.{ends_decide, open_incomplete, open_short, verdicts_stay}
use Rattle.s3_aws_chunked.proofs.trailed_laws.trailed_verdicts_are_final.Goals as goal

pub returns : goal.returns
returns c = record { stay = verdicts_stay; end = ends_decide; short = open_short; incomplete = open_incomplete }
