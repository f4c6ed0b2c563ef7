-- Each call has fewer bytes.
use Rattle.std.proofs.Common.{length}
use Rattle.s3_machine.proofs.overrides.+are_printed.Given as goal

abbrev pub decreases-are_printed : goal.decreases-are_printed
decreases-are_printed l = length l.bytes.now
