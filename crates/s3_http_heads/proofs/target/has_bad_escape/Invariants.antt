use Rattle.std.proofs.Common.{◌≡◌, drop}
use Rattle.s3_http_heads.specs.Target.{has_bad_escape}
use Rattle.s3_http_heads.proofs.target.has_bad_escape.Given as goal

abbrev pub invariant-loop-i : goal.invariant-loop-i
invariant-loop-i l = has_bad_escape (drop l.i l.bytes) ≡ has_bad_escape l.bytes
