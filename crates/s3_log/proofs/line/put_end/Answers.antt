use Rattle.std.proofs.Common.{Some, codes, option_map}
use Rattle.s3_documents.specs.Printed.{told}
use Rattle.s3_documents.specs.Tree.{number}
use Rattle.s3_log.proofs.LineLemmas.{both_behind, bytes_lead, led_behind, microseconds_lead}
use Rattle.s3_log.proofs.RoomLemmas.{puts_as, puts_then}
use Rattle.s3_log.proofs.line.put_end.Goals as goal

pub returns : goal.returns
returns c =
    let bytes = Some (number c.args.message.now.bytes) in
    let microseconds = option_map number c.args.message.now.microseconds in
    puts_as
    (both_behind _ _ (told (codes "bytes") bytes) (told (codes "microseconds") microseconds)
    (led_behind (codes ",\"bytes\":") (codes "bytes") bytes bytes_lead)
    (led_behind (codes ",\"microseconds\":") (codes "microseconds") microseconds microseconds_lead))
    (puts_then c.put_number-behind.ensures c.put_count.ensures)
