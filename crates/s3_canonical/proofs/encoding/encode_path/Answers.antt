use Rattle.s3_canonical.proofs.EncodingLemmas.{percent_encode-path}
use Rattle.s3_canonical.proofs.encoding.encode_path.Goals as goal

pub returns : goal.returns
returns c = rw (← percent_encode-path c.args.path.now) c.encode.ensures
