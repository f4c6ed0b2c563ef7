use Rattle.std.proofs.Common.{◌≡◌, ◌++◌, length}
use Rattle.std.specs.List.{filter_map}
use Rattle.s3_text.specs.Cut.{parts_at}
use Rattle.s3_events.specs.Lines.{moment_of}
use Rattle.s3_events.proofs.checked.moments.Given as goal

abbrev pub invariant-loop-field : goal.invariant-loop-field
invariant-loop-field l = l.moments.items ++ filter_map moment_of (parts_at 32 l.left) ≡ filter_map moment_of (parts_at 32 l.fields)

abbrev pub decreases-loop-field : goal.decreases-loop-field
decreases-loop-field l = length l.left
