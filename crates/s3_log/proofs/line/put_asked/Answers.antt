use Rattle.std.proofs.Common.{codes}
use Rattle.s3_log.proofs.LineLemmas.{operation_lead, method_lead, texts_behind_leads}
use Rattle.s3_log.proofs.RoomLemmas.{ok_as}
use Rattle.s3_log.proofs.line.put_asked.Goals as goal

pub returns-clause-put : goal.returns-clause-put
returns-clause-put c =
    ok_as c.put_texts.result _ c.put_texts.new.room _
    (texts_behind_leads (codes ",\"operation\":") (codes "operation") (codes ",\"method\":") (codes "method") c.args.operation.now c.args.method.now operation_lead method_lead)
    c.put_texts.ensures.put
