use Rattle.std.proofs.Common.{◌≡◌, map, take}
use Rattle.std.specs.List.{join_with_byte}
use Rattle.s3_canonical.specs.Parameter.{pairs}
use Rattle.s3_canonical.specs.CanonicalTarget.{print_pair}
use Rattle.s3_canonical.proofs.parameter.join.Given as goal

abbrev pub invariant-loop-i : goal.invariant-loop-i
invariant-loop-i l = l.text.items ≡ join_with_byte 38 (take l.i (map print_pair (pairs l.all)))
