use Rattle.std.proofs.Common.{refl}
use Rattle.s3_checksums.specs.Crc.{crc_64_nvme}
use Rattle.s3_checksums.specs.Hashers.{HoldsCrc64Nvme}
use Rattle.s3_checksums.proofs.PieceLemmas.{piece-added}
use Rattle.s3_checksums.proofs.hashers.Crc64Nvme.update.Goals as goal

pub returns : goal.returns
unfolding HoldsCrc64Nvme
returns c = λ message holds.
    piece-added crc_64_nvme.generator crc_64_nvme.initial c.args.self.now.remainder c.args.self.now.remainder c.absorbed-self.result message c.args.piece.now (c.absorbed-self.ensures _ c.for_crc_64_nvme.ensures) refl holds
