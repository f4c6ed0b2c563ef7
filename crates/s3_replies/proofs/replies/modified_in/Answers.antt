use Rattle.s3_replies.proofs.replies.modified_in.Goals as goal

pub returns-in-Got : goal.returns-in-Got
returns-in-Got c = rw c.in-Got.is c.of.ensures
