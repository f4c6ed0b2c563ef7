-- Each call has fewer entries.
use Rattle.std.proofs.Common.{length}
use Rattle.s3_versions.proofs.metadata.+user_defined_fit.Given as goal

abbrev pub decreases-user_defined_fit : goal.decreases-user_defined_fit
decreases-user_defined_fit l = length l.entries.now
