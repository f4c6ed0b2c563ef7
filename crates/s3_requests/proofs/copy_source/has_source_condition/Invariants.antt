-- No line so far sets a condition.
use Rattle.std.proofs.Common.{◌≡◌, false, take}
use Rattle.std.specs.List.{list_any}
use Rattle.s3_requests.specs.CopySource.{is_condition}
use Rattle.s3_requests.proofs.copy_source.has_source_condition.Given as goal

abbrev pub invariant-loop-index : goal.invariant-loop-index
invariant-loop-index l = list_any (λ line. is_condition line.0) (take l.index l.head.headers) ≡ false
