use Rattle.std.proofs.Common.{arith}
use Rattle.s3_log.proofs.QueryLemmas.{nothing_told}
use Rattle.s3_log.proofs.RoomLemmas.{ok_as}
use Rattle.s3_log.proofs.line.put_signed.Goals as goal

pub returns-then-is_empty-clause-put : goal.returns-then-is_empty-clause-put
returns-then-is_empty-clause-put c =
    ok_as c.put_shown.result _ c.put_shown.new.room _ (nothing_told c.args.query.now c.args.id.now (grind (arith, c.if-is_empty.ensures)))
    c.put_shown.ensures.put
