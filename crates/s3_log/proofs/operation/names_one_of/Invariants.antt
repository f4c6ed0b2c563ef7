use Rattle.std.proofs.Common.{◌≡◌, length}
use Rattle.std.specs.List.{list_any}
use Rattle.s3_text.specs.Characters.{space}
use Rattle.s3_text.specs.Cut.{parts_at}
use Rattle.s3_http_heads.specs.Target.{has_parameter}
use Rattle.s3_log.proofs.operation.names_one_of.Given as goal

abbrev pub invariant-loop-name : goal.invariant-loop-name
invariant-loop-name l =
    list_any (λ name. has_parameter name l.target) (parts_at space l.rest) ≡ list_any (λ name. has_parameter name l.target) (parts_at space l.names)

abbrev pub decreases-loop-name : goal.decreases-loop-name
decreases-loop-name l = length l.rest
