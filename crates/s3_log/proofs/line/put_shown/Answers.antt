use Rattle.std.proofs.Common.{codes}
use Rattle.s3_log.proofs.LineLemmas.{query_lead, access_key_lead, texts_behind_leads}
use Rattle.s3_log.proofs.RoomLemmas.{ok_as}
use Rattle.s3_log.proofs.line.put_shown.Goals as goal

pub returns-clause-put : goal.returns-clause-put
returns-clause-put c =
    ok_as c.put_texts.result _ c.put_texts.new.room _
    (texts_behind_leads (codes ",\"query\":") (codes "query") (codes ",\"access_key\":") (codes "access_key") c.args.shown.now c.args.id.now query_lead access_key_lead)
    c.put_texts.ensures.put
