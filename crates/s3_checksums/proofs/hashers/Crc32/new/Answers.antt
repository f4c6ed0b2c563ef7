use Rattle.std.proofs.Common.{refl}
use Rattle.s3_checksums.specs.Hashers.{HoldsCrc32}
use Rattle.s3_checksums.proofs.hashers.Crc32.new.Goals as goal

pub returns : goal.returns
unfolding HoldsCrc32
returns c = refl
