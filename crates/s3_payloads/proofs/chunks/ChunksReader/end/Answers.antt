use Rattle.s3_payloads.proofs.ChunkLemmas.{ended_by}
use Rattle.s3_payloads.proofs.chunks.ChunksReader.end.Goals as goal

pub returns-clause-stands : goal.returns-clause-stands
returns-clause-stands c = λ terms bytes stands.
    ended_by c.end.result _ _ _ (c.end.ensures.stands terms bytes c.args.self.now.payload stands) c.end.ensures.ok c.end.ensures.err
