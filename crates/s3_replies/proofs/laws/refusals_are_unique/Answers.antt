use Rattle.s3_replies.specs.Replies.{closing, unnumbered}
use Rattle.s3_replies.proofs.ReplyLemmas.{Prints_unique}
use Rattle.s3_replies.proofs.laws.refusals_are_unique.Goals as goal

pub returns : goal.returns
returns c = λ dialect code moment head_only. Prints_unique (unnumbered code) (closing dialect moment head_only)
