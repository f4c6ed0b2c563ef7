use Rattle.std.proofs.Common.{refl}
use Rattle.s3_checksums.specs.Hashers.{HoldsCrc32c}
use Rattle.s3_checksums.proofs.hashers.Crc32c.new.Goals as goal

pub returns : goal.returns
unfolding HoldsCrc32c
returns c = refl
