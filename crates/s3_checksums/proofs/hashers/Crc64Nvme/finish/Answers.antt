use Rattle.std.proofs.Common.{◌-◌, ◌^◌, bit_xor, ap}
use Rattle.s3_checksums.specs.Crc.{crc}
use Rattle.s3_checksums.specs.Hashers.{HoldsCrc64Nvme}
use Rattle.s3_checksums.proofs.hashers.Crc64Nvme.finish.Goals as goal

pub returns : goal.returns
unfolding HoldsCrc64Nvme crc
returns c = λ message holds. ap (λ x. bit_xor x (2 ^ 64 - 1)) holds
