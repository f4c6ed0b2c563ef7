-- No line so far asks for what this server hasn't.
use Rattle.std.proofs.Common.{◌≡◌, false, take}
use Rattle.std.specs.List.{list_any}
use Rattle.s3_requests.specs.Unserved.{is_unserved_line}
use Rattle.s3_requests.proofs.unserved.has_unserved_line.Given as goal

abbrev pub invariant-loop-index : goal.invariant-loop-index
invariant-loop-index l = list_any (λ line. is_unserved_line l.operation line) (take l.index l.head.headers) ≡ false
