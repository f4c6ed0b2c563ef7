use Rattle.std.proofs.Common.{ℕ, List, length}
use Rattle.s3_signing.specs.Chain.{Link}
use Rattle.s3_aws_chunked.specs.Write.{Adds}
use Rattle.s3_aws_chunked.proofs.write.write_pieces.Given as goal

abbrev pub invariant-loop-rest : goal.invariant-loop-rest
invariant-loop-rest l =
    (new : List ℕ) (link : Link) → Adds l.chain l.rest l.size l.body.items new link
    → Adds l.initial.chain l.bytes l.size l.initial.body.items new link

abbrev pub decreases-loop-rest : goal.decreases-loop-rest
decreases-loop-rest l = length l.rest
