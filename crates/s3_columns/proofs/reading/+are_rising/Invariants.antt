use Rattle.std.proofs.Common.{length}
use Rattle.s3_columns.proofs.reading.+are_rising.Given as goal

abbrev pub decreases-are_rising : goal.decreases-are_rising
decreases-are_rising l = length l.entries.now
