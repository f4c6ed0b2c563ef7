-- Each call has fewer entries.
use Rattle.std.proofs.Common.{length}
use Rattle.s3_machine.proofs.overrides.+have_printed_values.Given as goal

abbrev pub decreases-have_printed_values : goal.decreases-have_printed_values
decreases-have_printed_values l = length l.entries.now
