use Rattle.s3_log.proofs.RoomLemmas.{puts_in_quotes}
use Rattle.s3_log.proofs.member.put_in_quotes.Goals as goal

pub returns : goal.returns
returns c = puts_in_quotes c.put-quote.ensures c.put-inside.ensures c.put-behind.ensures c.put.ensures
