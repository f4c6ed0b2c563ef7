use Rattle.std.proofs.Common.{arith, lit<, lit≤}
use Rattle.s3_checksums.specs.Crc.{crc_32}
use Rattle.s3_checksums.specs.Hashers.{HoldsCrc32}
use Rattle.s3_checksums.proofs.PieceLemmas.{piece-added, remainder-fits}
use Rattle.s3_checksums.proofs.hashers.Crc32.update.Goals as goal

pub overflow_cast-self : goal.overflow_cast-self
overflow_cast-self c = record {
  fits = remainder-fits 32 crc_32.generator c.from-before.result c.absorbed.result c.args.piece.now (lit≤ tt) (lit< tt) (omega arith) (λ k. omega (arith, c.type_inv.piece k)) (c.absorbed.ensures _ c.for_crc_32.ensures);
}

pub returns : goal.returns
unfolding HoldsCrc32
returns c = λ message holds.
    piece-added crc_32.generator crc_32.initial c.from-before.result c.args.self.now.remainder c.absorbed.result message c.args.piece.now (c.absorbed.ensures _ c.for_crc_32.ensures) c.from-before.ensures holds
