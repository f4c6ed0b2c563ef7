use Rattle.std.proofs.Common.{◌≡◌, ℕ, ◌<◌, false, not, get_or}
use Rattle.std.specs.Ordering.{is_gt}
use Rattle.s3_text.specs.Order.{byte_order}
use Rattle.s3_signer.specs.declared.line.Line.{Line}
use Rattle.s3_signer.proofs.line.place_of.Given as goal

abbrev pub invariant-loop-place : goal.invariant-loop-place
invariant-loop-place l =
    (k : ℕ) (d : Line) → k < l.place → not (is_gt (byte_order l.name (get_or l.lines k d).name.items)) ≡ false
