use Rattle.std.proofs.Common.{ℕ, List, ◌++◌, ◌∙◌, ap}
use Rattle.s3_log.proofs.RoomLemmas.{puts_as, puts_then}
use Rattle.s3_log.proofs.member.put_quoted.Goals as goal

pub returns-clause-put : goal.returns-clause-put
returns-clause-put c =
    puts_as (ap (λ (l : List ℕ). c.args.lead.now ++ l) (c.deref.ensures.value ∙ c.in_ok-quoted.ensures)) (puts_then c.put-behind.ensures c.put.ensures)
