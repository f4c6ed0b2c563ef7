use Rattle.s3_framed_bodies.proofs.CodedLemmas.{failed_fed, passed_fed}
use Rattle.s3_framed_bodies.proofs.coded.CodedReader.feed.Goals as goal

pub returns-in-Passed-clause-stands : goal.returns-in-Passed-clause-stands
returns-in-Passed-clause-stands c body limit decoded bytes h =
    passed_fed c.args.self.now body limit decoded bytes c.args.piece.now h c.verdicts_are_final.ensures.taken c.verdicts_are_final.ensures.stay
    c.bodies_are_accepted.ensures.accepted c.bodies_are_accepted.ensures.bodies c.refusals_stand.ensures.stand _ _ c.in-Passed.is

pub returns-in-Failed-clause-stands : goal.returns-in-Failed-clause-stands
returns-in-Failed-clause-stands c body limit decoded bytes h =
    failed_fed c.args.self.now body limit decoded bytes c.args.piece.now h c.verdicts_are_final.ensures.taken c.verdicts_are_final.ensures.stay _ c.in-Failed.is
