-- What was passed is white space.
use Rattle.std.proofs.Common.{◌≡◌, ◌≤◌, ◌-◌, length, drop}
use Rattle.httparse.specs.Grammar.{skip_ows}
use Rattle.s3_http_heads.proofs.text.trimmed_start.Given as goal

abbrev pub invariant-loop-start : goal.invariant-loop-start
invariant-loop-start l =
    record { rest : skip_ows (drop l.start l.bytes) ≡ skip_ows l.bytes; within : l.start ≤ length l.bytes }

abbrev pub decreases-loop-start : goal.decreases-loop-start
decreases-loop-start l = length l.bytes - l.start
