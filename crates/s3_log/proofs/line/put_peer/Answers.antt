use Rattle.std.proofs.Common.{codes}
use Rattle.s3_log.proofs.LineLemmas.{peer_lead, request_id_lead, texts_behind_leads}
use Rattle.s3_log.proofs.RoomLemmas.{ok_as}
use Rattle.s3_log.proofs.line.put_peer.Goals as goal

pub returns-clause-put : goal.returns-clause-put
returns-clause-put c =
    ok_as c.put_texts.result _ c.put_texts.new.room _
    (texts_behind_leads (codes ",\"peer\":") (codes "peer") (codes ",\"request_id\":") (codes "request_id") c.args.peer.now c.args.id.now peer_lead request_id_lead)
    c.put_texts.ensures.put
