-- Each call has fewer entries.
use Rattle.std.proofs.Common.{length}
use Rattle.s3_replies.proofs.lines.+is_overridden.Given as goal

abbrev pub decreases-is_overridden : goal.decreases-is_overridden
decreases-is_overridden l = length l.overrides.now
