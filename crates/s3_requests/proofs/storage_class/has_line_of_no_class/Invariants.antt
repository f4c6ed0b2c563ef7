-- No line so far asks for another class.
use Rattle.std.proofs.Common.{◌≡◌, false, take}
use Rattle.std.specs.List.{list_any}
use Rattle.s3_requests.specs.StorageClass.{is_of_no_class}
use Rattle.s3_requests.proofs.storage_class.has_line_of_no_class.Given as goal

abbrev pub invariant-loop-index : goal.invariant-loop-index
invariant-loop-index l = list_any (λ line. is_of_no_class line) (take l.index l.head.headers) ≡ false
