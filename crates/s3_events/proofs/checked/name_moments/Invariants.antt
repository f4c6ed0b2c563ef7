use Rattle.std.proofs.Common.{◌≡◌, length, is_some}
use Rattle.std.specs.List.{list_all}
use Rattle.s3_text.specs.Cut.{parts_at}
use Rattle.s3_events.specs.Lines.{moment_of}
use Rattle.s3_events.proofs.checked.name_moments.Given as goal

abbrev pub invariant-loop-field : goal.invariant-loop-field
invariant-loop-field l = list_all (λ field. is_some (moment_of field)) (parts_at 32 l.fields) ≡ list_all (λ field. is_some (moment_of field)) (parts_at 32 l.left)

abbrev pub decreases-loop-field : goal.decreases-loop-field
decreases-loop-field l = length l.left
