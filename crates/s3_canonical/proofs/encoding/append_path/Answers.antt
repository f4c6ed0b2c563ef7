use Rattle.s3_canonical.proofs.EncodingLemmas.{percent_encode-path}
use Rattle.s3_canonical.proofs.encoding.append_path.Goals as goal

pub returns : goal.returns
returns c = rw (← percent_encode-path c.args.path.now, ← c.percent_encode.ensures.text) c.append_to.ensures.ok
