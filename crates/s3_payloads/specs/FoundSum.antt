-- The checksum that is found of a body (Amazon S3 User Guide, "Checking object integrity").
use Rattle.std.specs.Prelude.{ℕ, List, Option, Some, None, option_map}
use Rattle.s3_integrity.specs.Sum.{algorithm_of, sum_of, with_bytes}
use Rattle.s3_integrity.specs.declared.algorithm.ChecksumAlgorithm.{ChecksumAlgorithm}
use Rattle.s3_integrity.specs.declared.checksum.Checksum.{Checksum}
use Rattle.s3_payloads.specs.declared.form.Form.{Form}
use Rattle.s3_payloads.specs.declared.form.Form.TheVariants.{Whole, Chunks, TrailedChunks}

-- the kind of checksum that a head says or announces
abbrev pub kind_in : Form → Option ChecksumAlgorithm
kind_in (Whole hash digests) = option_map algorithm_of digests.checksum
kind_in (Chunks decoded) = None
kind_in (TrailedChunks decoded algorithm signed) = Some algorithm

-- the checksum of these bytes of a kind, where one is named
abbrev pub sum_by : Option ChecksumAlgorithm → List ℕ → Option Checksum
sum_by kind bytes = option_map (λ (algorithm : ChecksumAlgorithm). with_bytes algorithm (sum_of algorithm bytes)) kind

-- the checksum of an accepted body whose head was so, of the kind that it says or announces
abbrev pub found_sum : Form → List ℕ → Option Checksum
found_sum form payload = sum_by (kind_in form) payload
