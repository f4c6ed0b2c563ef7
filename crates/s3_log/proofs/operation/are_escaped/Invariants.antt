use Rattle.std.proofs.Common.{◌≡◌, length}
use Rattle.std.specs.List.{list_any}
use Rattle.s3_log.specs.Operation.{is_escaped, parameters_sent}
use Rattle.s3_log.proofs.operation.are_escaped.Given as goal

abbrev pub invariant-loop-part : goal.invariant-loop-part
invariant-loop-part l = list_any is_escaped (parameters_sent l.rest) ≡ list_any is_escaped (parameters_sent l.query)

abbrev pub decreases-loop-part : goal.decreases-loop-part
decreases-loop-part l = length l.rest
