use Rattle.std.proofs.Common.{rules}
use Rattle.s3_replies.proofs.document.document_of.Goals as goal

pub returns-in-Json : goal.returns-in-Json
returns-in-Json c = rw (c.object_of.ensures c.args.number) (search rules)
