use Rattle.std.proofs.Common.{true}
use Rattle.s3_payloads.proofs.EitherLemmas.{signed_stands, unsigned_stands}
use Rattle.s3_payloads.proofs.either_chunks.EitherChunks.end.Goals as goal

pub returns-in-Unsigned-clause-stands : goal.returns-in-Unsigned-clause-stands
returns-in-Unsigned-clause-stands c = λ terms bytes held stands.
    unsigned_stands c.in-Unsigned.chunks c.end.new.self terms bytes bytes true held held
    (λ t same stood. c.end.ensures.stands t bytes held stood) (rw c.in-Unsigned.is at stands)

pub returns-in-Signed-clause-stands : goal.returns-in-Signed-clause-stands
returns-in-Signed-clause-stands c = λ terms bytes held stands.
    signed_stands c.in-Signed.chunks c.end-in-Signed.new.self terms bytes bytes true held held
    (λ t same stood. c.end-in-Signed.ensures.stands t bytes held stood) (rw c.in-Signed.is at stands)
