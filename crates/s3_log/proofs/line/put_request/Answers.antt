use Rattle.std.proofs.Common.{codes}
use Rattle.s3_log.specs.Line.{texts_told}
use Rattle.s3_log.specs.Query.{shown_query}
use Rattle.s3_log.proofs.LineLemmas.{three_behind}
use Rattle.s3_log.proofs.RoomLemmas.{keeps_behind, kept_after, ok_behind, puts_then, whatever_kept}
use Rattle.s3_log.proofs.line.put_request.Goals as goal

pub returns : goal.returns
returns c =
    let request = c.args.request in
    let two = puts_then c.in_ok-bucket.ensures.put c.in_ok-query.ensures.put in
    record {
      put = ok_behind c.put_signed.result _ c.put_signed.new.room two
          (three_behind (texts_told (codes "operation") request.operation.now (codes "method") request.method.now)
          (texts_told (codes "bucket") request.bucket.now (codes "key") request.key.now)
          (texts_told (codes "query") (shown_query request.query.now) (codes "access_key") c.args.id.now))
          c.put_signed.ensures.put;
      kept = kept_after c.put_signed.result c.put_signed.new.room two c.put_signed.ensures.kept;
    }

pub returns-in_err-query-clause-kept : goal.returns-in_err-query-clause-kept
returns-in_err-query-clause-kept c =
    whatever_kept c.from_residual-in_err-query.result (keeps_behind c.in_ok-bucket.ensures.put c.in_err-query.ensures.kept)
