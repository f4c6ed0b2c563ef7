use Rattle.std.proofs.Common.{◌≡◌, length}
use Rattle.s3_conditions.specs.Tags.{skip_quotes}
use Rattle.s3_conditions.proofs.tags.unquoted_start.Given as goal

abbrev pub invariant-loop-rest : goal.invariant-loop-rest
invariant-loop-rest l = skip_quotes l.rest ≡ skip_quotes l.text

abbrev pub decreases-loop-rest : goal.decreases-loop-rest
decreases-loop-rest l = length l.rest
