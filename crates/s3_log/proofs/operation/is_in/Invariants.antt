use Rattle.std.proofs.Common.{◌≡◌, length}
use Rattle.std.specs.List.{list_any}
use Rattle.std.specs.Str.{bytes_eq}
use Rattle.s3_log.specs.Operation.{parameters_sent}
use Rattle.s3_log.proofs.operation.is_in.Given as goal

abbrev pub invariant-loop-part : goal.invariant-loop-part
invariant-loop-part l =
    list_any (λ parameter. bytes_eq parameter.0 l.name) (parameters_sent l.rest)
    ≡ list_any (λ parameter. bytes_eq parameter.0 l.name) (parameters_sent l.query)

abbrev pub decreases-loop-part : goal.decreases-loop-part
decreases-loop-part l = length l.rest
