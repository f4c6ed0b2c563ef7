-- What was cut are quotes.
use Rattle.std.proofs.Common.{◌≡◌, ◌≤◌, length, take, reverse}
use Rattle.s3_conditions.specs.Tags.{skip_quotes}
use Rattle.s3_conditions.proofs.tags.unquoted_end.Given as goal

abbrev pub invariant-loop-end : goal.invariant-loop-end
invariant-loop-end l =
    record { rest : skip_quotes (reverse (take l.end l.text)) ≡ skip_quotes (reverse l.text); within : l.end ≤ length l.text }

abbrev pub decreases-loop-end : goal.decreases-loop-end
decreases-loop-end l = l.end
