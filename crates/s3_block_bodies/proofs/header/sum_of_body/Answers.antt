use Rattle.std.proofs.Common.{ap, sym, subst, length, arith, ◌∙◌}
use Rattle.std.proofs.lemmas.List.{take_all}
use Rattle.s3_bodies.specs.Pieces.{IsPieceAt}
use Rattle.s3_checksums.specs.Crc.{crc, crc_64_nvme}
use Rattle.s3_checksums.specs.Hashers.{HoldsCrc64Nvme}
use Rattle.s3_block_bodies.proofs.FileLemmas.{next_piece}
use Rattle.s3_block_bodies.proofs.header.sum_of_body.Goals as goal

pub loop-at-preserved : goal.loop-at-preserved
loop-at-preserved c =
    let body = c.args.body.now in
    let at = c.loop-at.at in
    let is : IsPieceAt at body c.bytes-piece.result.now = rw c.bytes-piece.ensures c.piece.ensures.piece in
    let size = ap length c.bytes-piece.ensures in
    record {
      inside = omega (arith, size, c.piece.ensures.within);
      holds = subst (HoldsCrc64Nvme c.update.new.self) (sym (next_piece body c.bytes-piece.result.now at is)) (c.update.ensures _ c.loop-at.invariant.holds);
    }

pub returns : goal.returns
returns c =
    c.finish.ensures _ c.loop-at.invariant.holds
    ∙ ap (crc crc_64_nvme) (take_all c.loop-at.at c.args.body.now (omega arith))
