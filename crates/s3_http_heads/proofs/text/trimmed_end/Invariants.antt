-- What was cut is white space.
use Rattle.std.proofs.Common.{◌≡◌, ◌≤◌, length, take, reverse}
use Rattle.httparse.specs.Grammar.{skip_ows}
use Rattle.s3_http_heads.proofs.text.trimmed_end.Given as goal

abbrev pub invariant-loop-end : goal.invariant-loop-end
invariant-loop-end l =
    record { rest : skip_ows (reverse (take l.end l.bytes)) ≡ skip_ows (reverse l.bytes); within : l.end ≤ length l.bytes }

abbrev pub decreases-loop-end : goal.decreases-loop-end
decreases-loop-end l = l.end
