use Rattle.s3_canonical.proofs.EncodingLemmas.{percent_encode-query}
use Rattle.s3_canonical.proofs.encoding.encode_query.Goals as goal

pub returns : goal.returns
returns c = rw (← percent_encode-query c.args.part.now) c.encode.ensures
