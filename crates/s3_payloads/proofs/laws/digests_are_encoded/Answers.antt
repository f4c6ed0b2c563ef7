use Rattle.s3_payloads.proofs.DigestLemmas.{digest_encoded}
use Rattle.s3_payloads.proofs.laws.digests_are_encoded.Goals as goal

pub returns : goal.returns
returns c = digest_encoded
