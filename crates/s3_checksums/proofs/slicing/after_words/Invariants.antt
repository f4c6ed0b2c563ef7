use Rattle.std.proofs.Common.{◌≡◌, ℕ, ◌*◌, take}
use Rattle.s3_checksums.specs.Crc.{after_bytes}
use Rattle.s3_checksums.specs.Tables.{IsTable}
use Rattle.s3_checksums.proofs.slicing.after_words.Given as goal

abbrev pub invariant-words : goal.invariant-words
invariant-words l = (g : ℕ) → IsTable g l.table → l.remainder ≡ after_bytes g l.initial.remainder (take (8 * l.i) l.bytes)
