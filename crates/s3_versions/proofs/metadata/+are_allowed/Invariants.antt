-- Each call has fewer entries.
use Rattle.std.proofs.Common.{length}
use Rattle.s3_versions.proofs.metadata.+are_allowed.Given as goal

abbrev pub decreases-are_allowed : goal.decreases-are_allowed
decreases-are_allowed l = length l.entries.now
