use Rattle.std.proofs.Common.{length}
use Rattle.s3_replies.proofs.lines.+write_metadata.Given as goal

abbrev pub decreases-write_metadata : goal.decreases-write_metadata
decreases-write_metadata g l = length l.metadata.now
