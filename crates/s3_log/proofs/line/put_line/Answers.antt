use Rattle.s3_log.specs.Line.{end_fields, front_fields, head_fields, told_fields}
use Rattle.s3_log.proofs.LineLemmas.{line_told}
use Rattle.s3_log.proofs.RoomLemmas.{keeps_behind, puts_as, puts_then, whatever_kept}
use Rattle.s3_log.proofs.line.put_line.Goals as goal

pub returns : goal.returns
returns c =
    let message = c.args.message.now in
    record {
      put = puts_as (line_told c.args.beginning.now (front_fields message.peer.now message.told.number)
          (head_fields message.is_verified message.head.now) (told_fields message.told) (end_fields message.bytes message.microseconds))
          (puts_then (puts_then (puts_then (puts_then (puts_then (puts_as c.as_slice.ensures c.put-front.ensures) c.in_ok-head.ensures.put) c.in_ok-told.ensures.put) c.in_ok-end.ensures.put)
          c.put_end-brace.ensures) c.put.ensures);
      kept = tt;
    }

pub returns-in_err-head-clause-kept : goal.returns-in_err-head-clause-kept
returns-in_err-head-clause-kept c = whatever_kept c.from_residual.result (keeps_behind c.put-front.ensures c.in_err-head.ensures.kept)

pub returns-in_err-told-clause-kept : goal.returns-in_err-told-clause-kept
returns-in_err-told-clause-kept c =
    whatever_kept c.from_residual-in_err-told.result
    (keeps_behind c.put-front.ensures (keeps_behind c.in_ok-head.ensures.put c.in_err-told.ensures.kept))

pub returns-in_err-end-clause-kept : goal.returns-in_err-end-clause-kept
returns-in_err-end-clause-kept c =
    whatever_kept c.from_residual-in_err-end.result
    (keeps_behind c.put-front.ensures (keeps_behind c.in_ok-head.ensures.put (keeps_behind c.in_ok-told.ensures.put c.in_err-end.ensures.kept)))
