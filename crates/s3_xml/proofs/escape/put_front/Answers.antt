use Rattle.std.proofs.Common.{take, drop}
use Rattle.std.proofs.lemmas.Result.{err_from_is_err_and}
use Rattle.s3_xml.specs.Printed.{escaped}
use Rattle.s3_xml.proofs.EscapeLemmas.{advances, lacks, literal_front}
use Rattle.s3_xml.proofs.escape.put_front.Goals as goal

pub returns-in_err-put-clause-room : goal.returns-in_err-put-clause-room
returns-in_err-put-clause-room c =
    let p = err_from_is_err_and c.from_residual.result c.from_residual.ensures.1 in
    let count = c.plain_front-count.result in
    rw p.1 (lacks c.args.text.now (take count c.args.text.now) (escaped (drop count c.args.text.now)) c.args.writer.now.spare
    (literal_front c.args.text.now count c.plain_front-count.ensures.value) c.in_err-put.ensures.room)

pub returns-then-count-gt0-clause-advances : goal.returns-then-count-gt0-clause-advances
returns-then-count-gt0-clause-advances c =
    let count = c.plain_front-count.result in
    advances c.args.text.now (take count c.args.text.now) c.args.writer.now c.put.new.self count c.if-count-gt0.true c.plain_front-count.ensures.within
    (literal_front c.args.text.now count c.plain_front-count.ensures.value) c.in_ok-put.ensures.told c.in_ok-put.ensures.room
