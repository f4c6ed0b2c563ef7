-- Each call has fewer kinds.
use Rattle.std.proofs.Common.{length}
use Rattle.s3_payloads.proofs.form.+checksum_among.Given as goal

abbrev pub decreases-checksum_among : goal.decreases-checksum_among
decreases-checksum_among l = length l.algorithms.now
