use Rattle.s3_payloads.proofs.ReaderLemmas.{chunks_fed_for}
use Rattle.s3_payloads.proofs.TrailedForLemmas.{trailed_fed_for}
use Rattle.s3_payloads.proofs.reader.PayloadReader.feed.Goals as goal

pub returns-in-Chunks-clause-stands : goal.returns-in-Chunks-clause-stands
returns-in-Chunks-clause-stands c = λ announced bytes stands.
    chunks_fed_for announced.form announced c.in-Chunks.chunks c.feed-in-Chunks.new.self bytes c.args.piece.now c.feed-in-Chunks.result
    (rw c.in-Chunks.is at stands) (λ terms. c.feed-in-Chunks.ensures.stands terms bytes)

pub returns-in-Trailed-clause-stands : goal.returns-in-Trailed-clause-stands
returns-in-Trailed-clause-stands c = λ announced bytes stands.
    trailed_fed_for announced.form announced c.in-Trailed.trailed c.feed-in-Trailed.new.self bytes c.args.piece.now c.feed-in-Trailed.result
    (rw c.in-Trailed.is at stands) (λ algorithm terms. c.feed-in-Trailed.ensures.stands algorithm terms bytes)
