-- Each call has fewer rows.
use Rattle.std.proofs.Common.{length}
use Rattle.s3_listings.proofs.sought.+have_prefix.Given as goal

abbrev pub decreases-have_prefix : goal.decreases-have_prefix
decreases-have_prefix g l = length l.rows.now
