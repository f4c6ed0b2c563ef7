use Rattle.std.proofs.Common.{◌≡◌, drop}
use Rattle.s3_signing.proofs.CoverLemmas.{all_covered}
use Rattle.s3_signing.proofs.cover.covers_amz.Given as goal

abbrev pub invariant-loop-index : goal.invariant-loop-index
invariant-loop-index l = all_covered l.signed (drop l.index l.head.headers) ≡ all_covered l.signed l.head.headers
