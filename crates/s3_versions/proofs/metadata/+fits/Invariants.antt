-- Each call has fewer entries.
use Rattle.std.proofs.Common.{length}
use Rattle.s3_versions.proofs.metadata.+fits.Given as goal

abbrev pub decreases-fits : goal.decreases-fits
decreases-fits l = length l.entries.now
