use Rattle.std.proofs.Common.{arith, ◌/◌, ap, length}
use Rattle.s3_bodies.specs.Pieces.{PieceParts}
use Rattle.s3_bodies.proofs.PieceLemmas.{seen_piece}
use Rattle.s3_bodies.proofs.BlockLemmas.{full_inside, full_piece, full_size, last_inside, last_piece, last_size}
use Rattle.s3_bodies.proofs.blocks.BlocksInPieces.piece.Goals as goal

pub rest-requires : goal.rest-requires
rest-requires c = full_inside 65536 _ _ _ c.self.invariant.0 c.args.at (c.args.at / 65536) _ (omega arith) _ (omega arith) (omega arith) c.index.ensures

pub returns-then-index-len-clause-stands : goal.returns-then-index-len-clause-stands
returns-then-index-len-clause-stands c =
    seen_piece _ _ _ _ c.self.view_is
    (full_piece 65536 _ _ _ c.self.invariant.0 c.args.at (c.args.at / 65536) _ (omega arith) c.index.result.now _ (omega arith) (omega arith) c.index.ensures (ap (λ (p : PieceParts). p.bytes) c.rest.ensures))

pub returns-then-index-len-clause-size : goal.returns-then-index-len-clause-size
returns-then-index-len-clause-size c =
    let size = full_size 65536 _ _ _ c.self.invariant.0 c.args.at (c.args.at / 65536) _ (omega arith) c.index.result.now _ (omega arith) (omega arith) c.index.ensures (ap (λ (p : PieceParts). p.bytes) c.rest.ensures) in
    omega (arith, size, ap length c.self.view_is)

pub rest-requires-2 : goal.rest-requires-2
rest-requires-2 c =
    last_inside 65536 _ _ _ c.self.invariant.0 c.args.at (c.args.at / 65536) _ (omega arith) (omega (arith, ap length c.self.view_is, c.requires)) (omega arith)

pub returns-clause-stands : goal.returns-clause-stands
returns-clause-stands c =
    seen_piece _ _ _ _ c.self.view_is
    (last_piece 65536 _ _ _ c.self.invariant.0 c.args.at (c.args.at / 65536) _ (omega arith) _ (omega (arith, ap length c.self.view_is, c.requires)) (omega arith) (ap (λ (p : PieceParts). p.bytes) c.rest-2.ensures))

pub returns-clause-size : goal.returns-clause-size
returns-clause-size c =
    let size = last_size 65536 _ _ _ c.self.invariant.0 c.args.at (c.args.at / 65536) _ (omega arith) _ (omega (arith, ap length c.self.view_is, c.requires)) (omega arith) (ap (λ (p : PieceParts). p.bytes) c.rest-2.ensures) in
    omega (arith, size, ap length c.self.view_is)
