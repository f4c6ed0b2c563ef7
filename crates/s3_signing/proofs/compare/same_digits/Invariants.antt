use Rattle.std.proofs.Common.{◌≡◌, ◌&&◌, nat_eq, drop}
use Rattle.std.specs.Str.{bytes_eq}
use Rattle.s3_signing.proofs.compare.same_digits.Given as goal

abbrev pub invariant-loop-i : goal.invariant-loop-i
invariant-loop-i l =
    (nat_eq l.difference 0 && bytes_eq (drop l.i l.first) (drop l.i l.second)) ≡ bytes_eq l.first l.second
