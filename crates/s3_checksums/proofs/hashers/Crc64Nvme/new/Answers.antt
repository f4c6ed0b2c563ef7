use Rattle.std.proofs.Common.{refl}
use Rattle.s3_checksums.specs.Hashers.{HoldsCrc64Nvme}
use Rattle.s3_checksums.proofs.hashers.Crc64Nvme.new.Goals as goal

pub returns : goal.returns
unfolding HoldsCrc64Nvme
returns c = refl
