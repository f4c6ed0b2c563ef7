use Rattle.std.proofs.Common.{◌∙◌}
use Rattle.s3_replies.proofs.date.DateText.of.Goals as goal

-- the date is the one that the moment's seconds make
pub returns : goal.returns
returns c = (c.in-Ok.date, c.in-Ok.ensures.value ∙ c.seconds.ensures.value, c.to_bytes.ensures)
