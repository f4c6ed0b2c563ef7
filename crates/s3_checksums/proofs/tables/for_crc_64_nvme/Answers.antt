use Rattle.std.proofs.Common.{refl}
use Rattle.s3_checksums.specs.Crc.{after_bit, after_bits}
use Rattle.s3_checksums.proofs.TableLemmas.{counts, follows, table-passes}
use Rattle.s3_checksums.proofs.tables.for_crc_64_nvme.Goals as goal

pub returns : goal.returns
unfolding after_bit after_bits counts follows
returns c = table-passes _ _ refl refl refl refl
