use Rattle.s3_hmac.specs.Hmac.{hmac}
use Rattle.s3_hmac.proofs.HmacLemmas.{padded_key-digest}
use Rattle.s3_hmac.proofs.mac.long_keys_are_hashed.Goals as goal

pub returns : goal.returns
unfolding hmac
returns c = λ key message long. rw (padded_key-digest key long)
