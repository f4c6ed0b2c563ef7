-- Each call has fewer entries.
use Rattle.std.proofs.Common.{length}
use Rattle.s3_machine.proofs.overrides.+fits.Given as goal

abbrev pub decreases-fits : goal.decreases-fits
decreases-fits l = length l.entries.now
