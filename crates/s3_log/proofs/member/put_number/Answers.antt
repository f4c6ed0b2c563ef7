use Rattle.std.proofs.Common.{ℕ, List, ◌++◌, ◌∙◌, ap}
use Rattle.s3_log.proofs.RoomLemmas.{puts_as, puts_then}
use Rattle.s3_log.proofs.member.put_number.Goals as goal

pub returns : goal.returns
returns c =
    puts_as (ap (λ (l : List ℕ). c.args.lead.now ++ l) (c.as_bytes.ensures.value ∙ c.format.ensures.text)) (puts_then c.put-behind.ensures c.put.ensures)
