use Rattle.s3_aws_chunked.proofs.FinalLemmas.{refused_front}
use Rattle.s3_aws_chunked.proofs.finality.refusals_stand.Goals as goal

pub returns : goal.returns
returns c = refused_front
