-- Each call has fewer kinds.
use Rattle.std.proofs.Common.{length}
use Rattle.s3_payloads.proofs.form.+sends_one.Given as goal

abbrev pub decreases-sends_one : goal.decreases-sends_one
decreases-sends_one l = length l.algorithms.now
