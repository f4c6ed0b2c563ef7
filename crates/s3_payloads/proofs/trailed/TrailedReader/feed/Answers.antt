use Rattle.s3_payloads.proofs.TrailedLemmas.{wrong_fed}
use Rattle.s3_payloads.proofs.trailed.TrailedReader.feed.Goals as goal

pub returns-in-Some-clause-stands : goal.returns-in-Some-clause-stands
returns-in-Some-clause-stands c = λ algorithm terms bytes stands.
    wrong_fed c.args.self.now algorithm terms bytes c.args.piece.now c.in-Some.code stands c.in-Some.is
