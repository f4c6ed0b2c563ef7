use Rattle.std.proofs.Common.{◌≡◌, ◌<◌, ℕ, false, get_or}
use Rattle.s3_xml.specs.Writer.{is_special}
use Rattle.s3_xml.proofs.escape.plain_front.Given as goal

abbrev pub invariant-loop-i : goal.invariant-loop-i
invariant-loop-i l = (k : ℕ) → k < l.i → is_special (get_or l.text k 0) ≡ false
