use Rattle.s3_payloads.proofs.SummedLemmas.{kind_kept}
use Rattle.s3_payloads.proofs.TrailedLemmas.{chunks_fed}
use Rattle.s3_payloads.proofs.trailed.TrailedReader.take.Goals as goal

pub returns-clause-stands : goal.returns-clause-stands
returns-clause-stands c = λ terms bytes stands.
    chunks_fed c.either_chunks_are_judged.ensures.count c.args.self.now.chunks c.feed.new.self c.args.self.now.summed c.feed.new.sink terms bytes c.args.piece.now c.feed.result
    stands
    (λ other. c.feed.ensures.stands other terms bytes c.args.self.now.summed.bytes stands)
    c.feed.ensures.ok
    c.feed.ensures.err
    c.feed.ensures.count
    (λ code failed. (c.feed.ensures.refuses code failed).0)
    c.feed.ensures.grows
    c.feed.ensures.memory
    (λ is. c.feed.ensures.short is terms bytes c.args.self.now.summed.bytes stands)

pub returns-clause-kind : goal.returns-clause-kind
returns-clause-kind c = kind_kept c.args.self.now.summed c.feed.new.sink c.feed.ensures.grows
