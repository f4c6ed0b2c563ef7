use Rattle.std.proofs.Common.{◌-◌, ◌^◌, bit_xor, ap}
use Rattle.s3_checksums.specs.Crc.{crc}
use Rattle.s3_checksums.specs.Hashers.{HoldsCrc32c}
use Rattle.s3_checksums.proofs.hashers.Crc32c.finish.Goals as goal

pub returns : goal.returns
unfolding HoldsCrc32c crc
returns c = λ message holds. ap (λ x. bit_xor x (2 ^ 32 - 1)) holds
