use Rattle.std.proofs.Common.{lit<, lit≤}
use Rattle.s3_checksums.specs.Crc.{crc_32, crc_32c, crc_64_nvme}
use Rattle.s3_checksums.proofs.DivisionLemmas.{are_remainders}
use Rattle.s3_checksums.proofs.laws.checksums_are_remainders.Goals as goal

pub returns-clause-crc_32 : goal.returns-clause-crc_32
returns-clause-crc_32 c = are_remainders crc_32 (lit≤ tt) (lit< tt) (lit< tt)

pub returns-clause-crc_32c : goal.returns-clause-crc_32c
returns-clause-crc_32c c = are_remainders crc_32c (lit≤ tt) (lit< tt) (lit< tt)

pub returns-clause-crc_64_nvme : goal.returns-clause-crc_64_nvme
returns-clause-crc_64_nvme c = are_remainders crc_64_nvme (lit≤ tt) (lit< tt) (lit< tt)
