use Rattle.std.proofs.Common.{◌≡◌, ◌⊎◌, ℕ, true, length, take, ap, arith}
use Rattle.s3_terms.specs.declared.code.Code.TheVariants.{InternalError}
use Rattle.s3_aws_chunked.specs.Verdict.{Refused}
use Rattle.s3_payloads.specs.Verdict.{Judges}
use Rattle.s3_bodies.specs.Pieces.{IsPieceAt}
use Rattle.s3_framed_bodies.specs.Framed.{announced_with}
use Rattle.s3_framed_bodies.proofs.DataLemmas.{err_as, fed_refuses, fed_stands}
use Rattle.s3_framed_bodies.proofs.data.read_data.Goals as goal

pub loop-at-preserved : goal.loop-at-preserved
loop-at-preserved c =
    let is : IsPieceAt c.loop-at.at c.args.held.now c.bytes-piece.result.now = rw c.bytes-piece.ensures c.piece.ensures.piece in
    let size = ap length c.bytes-piece.ensures in
    record {
      stands = fed_stands _ _ c.args.held.now _ c.loop-at.at _ c.feed.result is (c.feed.ensures.stands _ _ c.loop-at.invariant.stands) c.in_ok-feed.was;
      inside = omega (arith, size, c.piece.ensures.within);
    }

pub returns-in_err-feed-clause-err : goal.returns-in_err-feed-clause-err
returns-in_err-feed-clause-err c =
    let is : IsPieceAt c.loop-at.at c.args.held.now c.bytes-piece.result.now = rw c.bytes-piece.ensures c.piece.ensures.piece in
    err_as c.from_residual.result c.in_err-feed.field-0.0
    (λ code. (code ≡ InternalError) ⊎ ((place : ℕ) × Judges (announced_with c.args.form c.args.verified.now (length c.args.held.now)) c.args.held.now true (Refused place code))) c.from_residual.ensures.1
    (fed_refuses c.payloads_are_judged.ensures.verdict c.payloads_are_judged.ensures.failed c.verdicts_are_final.ensures.stay _ (announced_with c.args.form c.args.verified.now (length c.args.held.now)) c.args.held.now _ c.loop-at.at
    c.feed.result _ is
    (c.feed.ensures.stands _ _ c.loop-at.invariant.stands) c.in_err-feed.was)
