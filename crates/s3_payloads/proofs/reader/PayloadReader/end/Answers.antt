use Rattle.s3_payloads.proofs.ReaderLemmas.{chunks_ended_for}
use Rattle.s3_payloads.proofs.TrailedForLemmas.{trailed_ended_for}
use Rattle.s3_payloads.proofs.reader.PayloadReader.end.Goals as goal

pub returns-in-Chunks-clause-stands : goal.returns-in-Chunks-clause-stands
returns-in-Chunks-clause-stands c = λ announced bytes stands.
    chunks_ended_for announced.form announced c.in-Chunks.chunks c.end-in-Chunks.new.self bytes c.end-in-Chunks.result
    (rw c.in-Chunks.is at stands) (λ terms. c.end-in-Chunks.ensures.stands terms bytes)

pub returns-in-Trailed-clause-stands : goal.returns-in-Trailed-clause-stands
returns-in-Trailed-clause-stands c = λ announced bytes stands.
    trailed_ended_for announced.form announced c.in-Trailed.trailed c.end-in-Trailed.new.self bytes c.end-in-Trailed.result
    (rw c.in-Trailed.is at stands) (λ algorithm terms. c.end-in-Trailed.ensures.stands algorithm terms bytes)
