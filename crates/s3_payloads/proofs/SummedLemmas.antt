-- The data of a body whose checksum runs along.
use Rattle.std.proofs.Common.{◌≡◌, ℕ, ◌==◌, List, ◌++◌, refl, sym, ap, ◌∙◌, Option, Some, None, if◌then◌else◌}
use Rattle.std.specs.Prelude.{option_map}
use Rattle.s3_integrity.specs.Sum.{algorithm_of, checksum_of, decoded_as, size_of, with_bytes}
use Rattle.s3_integrity.specs.declared.algorithm.ChecksumAlgorithm.{ChecksumAlgorithm}
use Rattle.s3_integrity.specs.declared.algorithm.ChecksumAlgorithm.TheVariants.{Crc32, Crc32c, Crc64Nvme, Sha1, Sha256}
use Rattle.s3_integrity.specs.declared.checksum.Checksum.{Checksum}
use Rattle.s3_unsigned_chunks.specs.Sinks.{Grows, got}
use Rattle.s3_payloads.specs.Summed.{SummedState, mark_of, marked}

-- a checksum that is read is of the kind that it was read as
kind_stays : (algorithm : ChecksumAlgorithm) (bytes : List ℕ) → algorithm_of (with_bytes algorithm bytes) ≡ algorithm
kind_stays Crc32 bytes = refl
kind_stays Crc32c bytes = refl
kind_stays Crc64Nvme bytes = refl
kind_stays Sha1 bytes = refl
kind_stays Sha256 bytes = refl

kind_read : (algorithm : ChecksumAlgorithm) (decoded : Option (List ℕ)) (sum : Checksum)
    → option_map (with_bytes algorithm) decoded ≡ Some sum → algorithm_of sum ≡ algorithm
kind_read algorithm None sum is = absurd (cc)
kind_read algorithm (Some bytes) sum is =
    let same : with_bytes algorithm bytes ≡ sum = cc in
    ap algorithm_of (sym same) ∙ kind_stays algorithm bytes

pub sum_kind : (algorithm : ChecksumAlgorithm) (text : List ℕ) (sum : Checksum) → checksum_of algorithm text ≡ Some sum
    → algorithm_of sum ≡ algorithm
unfolding checksum_of
sum_kind algorithm text sum is = kind_read algorithm (decoded_as (size_of algorithm) text) sum is

-- the kind of a mark
abbrev kind_at : ℕ → ChecksumAlgorithm
kind_at mark =
    if mark == 0 then Crc32
    else if mark == 1 then Crc32c
    else if mark == 2 then Crc64Nvme
    else if mark == 3 then Sha1
    else Sha256

marks_differ : (algorithm : ChecksumAlgorithm) → kind_at (mark_of algorithm) ≡ algorithm
marks_differ Crc32 = refl
marks_differ Crc32c = refl
marks_differ Crc64Nvme = refl
marks_differ Sha1 = refl
marks_differ Sha256 = refl

-- what grows keeps its kind
pub kind_kept : (old new : SummedState) → Grows (marked old) (marked new) → new.algorithm ≡ old.algorithm
kind_kept old new grows =
    let same : mark_of new.algorithm ≡ mark_of old.algorithm = cc in
    sym (marks_differ new.algorithm) ∙ ap kind_at same ∙ marks_differ old.algorithm

-- and what it got stands behind the data that it had
pub data_grows : (old new : SummedState) → Grows (marked old) (marked new) → new.bytes ≡ old.bytes ++ got (marked old) (marked new)
data_grows old new grows = cc
