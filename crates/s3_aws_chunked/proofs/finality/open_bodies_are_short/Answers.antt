use Rattle.s3_aws_chunked.proofs.OpenLemmas.{open_incomplete, open_short}
use Rattle.s3_aws_chunked.proofs.finality.open_bodies_are_short.Goals as goal

pub returns : goal.returns
returns c = record { short = open_short; incomplete = open_incomplete }
