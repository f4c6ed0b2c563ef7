use Rattle.std.proofs.Common.{false, ◌++◌, ⊎_elim, inl, inr}
use Rattle.s3_aws_chunked.specs.Sinks.{got}
use Rattle.s3_payloads.proofs.EitherLemmas.{signed_short, signed_stands, unsigned_short, unsigned_stands}
use Rattle.s3_payloads.proofs.either_chunks.EitherChunks.feed.Goals as goal

pub returns-in-Unsigned-clause-stands : goal.returns-in-Unsigned-clause-stands
returns-in-Unsigned-clause-stands g c = λ other terms bytes held stands.
    unsigned_stands c.in-Unsigned.chunks c.feed.new.self terms bytes (bytes ++ c.args.piece.now) false held
    (held ++ got (g.S.Sink.taken c.args.sink.now) (g.S.Sink.taken c.feed.new.sink))
    (λ t same stood. c.feed.ensures.stands other t bytes held stood) (rw c.in-Unsigned.is at stands)

pub returns-in-Unsigned-clause-memory : goal.returns-in-Unsigned-clause-memory
returns-in-Unsigned-clause-memory g c = λ is.
    ⊎_elim (λ failed. inl (rw c.in-Unsigned.is failed)) (λ some. inr some.0) (c.feed.ensures.memory is)

pub returns-in-Unsigned-clause-short : goal.returns-in-Unsigned-clause-short
returns-in-Unsigned-clause-short g c = λ is terms bytes held stands.
    unsigned_short c.in-Unsigned.chunks terms bytes held (λ t stood. c.feed.ensures.short is t bytes held stood) (rw c.in-Unsigned.is at stands)

pub returns-in-Signed-clause-stands : goal.returns-in-Signed-clause-stands
returns-in-Signed-clause-stands g c = λ other terms bytes held stands.
    signed_stands c.in-Signed.chunks c.feed-in-Signed.new.self terms bytes (bytes ++ c.args.piece.now) false held
    (held ++ got (g.S.Sink.taken c.args.sink.now) (g.S.Sink.taken c.feed-in-Signed.new.sink))
    (λ t same stood. c.feed-in-Signed.ensures.stands other t bytes held stood) (rw c.in-Signed.is at stands)

pub returns-in-Signed-clause-memory : goal.returns-in-Signed-clause-memory
returns-in-Signed-clause-memory g c = λ is.
    ⊎_elim (λ failed. inl (rw c.in-Signed.is failed)) (λ some. inr some.0) (c.feed-in-Signed.ensures.memory is)

pub returns-in-Signed-clause-short : goal.returns-in-Signed-clause-short
returns-in-Signed-clause-short g c = λ is terms bytes held stands.
    signed_short c.in-Signed.chunks terms bytes held (λ t stood. c.feed-in-Signed.ensures.short is t bytes held stood) (rw c.in-Signed.is at stands)
