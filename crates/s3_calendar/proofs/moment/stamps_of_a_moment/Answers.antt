use Rattle.s3_calendar.proofs.StampLemmas.{stamps_same}
use Rattle.s3_calendar.proofs.moment.stamps_of_a_moment.Goals as goal

pub returns : goal.returns
returns c = stamps_same
