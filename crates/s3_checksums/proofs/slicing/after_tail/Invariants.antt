use Rattle.std.proofs.Common.{◌≡◌, ℕ, take}
use Rattle.s3_checksums.specs.Crc.{after_bytes}
use Rattle.s3_checksums.specs.Tables.{IsTable}
use Rattle.s3_checksums.proofs.slicing.after_tail.Given as goal

abbrev pub invariant-loop-byte : goal.invariant-loop-byte
invariant-loop-byte l = (g : ℕ) → IsTable g l.table → l.remainder ≡ after_bytes g l.initial.remainder (take l.byte-index l.bytes)
