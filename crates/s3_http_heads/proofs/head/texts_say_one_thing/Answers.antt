use Rattle.s3_http_heads.proofs.HeadLemmas.{says_unique}
use Rattle.s3_http_heads.proofs.head.texts_say_one_thing.Goals as goal

pub returns : goal.returns
returns c = says_unique
