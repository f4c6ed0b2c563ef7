use Rattle.std.proofs.Common.{ap, length, arith}
use Rattle.s3_bodies.specs.Pieces.{IsPieceAt}
use Rattle.s3_bodies.proofs.PieceLemmas.{up_to_from}
use Rattle.s3_bodies.proofs.body.Body.copy_to.Goals as goal

pub loop-at-preserved : goal.loop-at-preserved
loop-at-preserved c =
    let is : IsPieceAt c.loop-at.at c.args.self.now c.bytes-piece.result.now = rw c.bytes-piece.ensures c.piece.ensures.piece in
    let size = ap length c.bytes-piece.ensures in
    record {
      so_far = up_to_from c.args.self.now c.bytes-piece.result.now _ _ _ c.args.from c.loop-at.at c.loop-at.invariant.inside.0 is c.loop-at.invariant.so_far c.in_ok-extend_from_slice.ensures.items;
      inside = (omega (arith, size), omega (arith, size, c.piece.ensures.within));
      capacity = omega arith;
    }
