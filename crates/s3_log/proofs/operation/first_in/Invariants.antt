use Rattle.std.proofs.Common.{◌≡◌, ℕ, List, length}
use Rattle.std.specs.Prelude.{find}
use Rattle.std.specs.Str.{bytes_eq}
use Rattle.s3_log.specs.Operation.{parameters_sent}
use Rattle.s3_log.proofs.operation.first_in.Given as goal

abbrev pub invariant-loop-part : goal.invariant-loop-part
invariant-loop-part l =
    find (λ (parameter : List ℕ × List ℕ). bytes_eq parameter.0 l.name) (parameters_sent l.rest)
    ≡ find (λ (parameter : List ℕ × List ℕ). bytes_eq parameter.0 l.name) (parameters_sent l.query)

abbrev pub decreases-loop-part : goal.decreases-loop-part
decreases-loop-part l = length l.rest
