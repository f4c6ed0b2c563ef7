use Rattle.std.proofs.Common.{codes}
use Rattle.s3_log.proofs.LineLemmas.{bucket_lead, key_lead, texts_behind_leads}
use Rattle.s3_log.proofs.RoomLemmas.{ok_as}
use Rattle.s3_log.proofs.line.put_address.Goals as goal

pub returns-clause-put : goal.returns-clause-put
returns-clause-put c =
    ok_as c.put_texts.result _ c.put_texts.new.room _
    (texts_behind_leads (codes ",\"bucket\":") (codes "bucket") (codes ",\"key\":") (codes "key") c.args.bucket.now c.args.key.now bucket_lead key_lead)
    c.put_texts.ensures.put
