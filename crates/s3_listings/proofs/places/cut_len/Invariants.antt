use Rattle.std.proofs.Common.{◌<◌, length}
use Rattle.s3_listings.proofs.places.cut_len.Given as goal

-- it is within the text
abbrev pub invariant-loop-len : goal.invariant-loop-len
invariant-loop-len l = l.len < length l.text

abbrev pub decreases-loop-len : goal.decreases-loop-len
decreases-loop-len l = l.len
