use Rattle.s3_replies.proofs.ReplyLemmas.{Prints_unique}
use Rattle.s3_replies.proofs.laws.replies_are_unique.Goals as goal

pub returns : goal.returns
returns c = Prints_unique
