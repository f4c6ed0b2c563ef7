use Rattle.std.proofs.Common.{refl}
use Rattle.s3_session.proofs.StandsLemmas.{stands_sent}
use Rattle.s3_session.proofs.session.Session.sent.Goals as goal

pub returns-clause-stands : goal.returns-clause-stands
returns-clause-stands c settings past sent h =
    stands_sent settings c.args.self.now _ past sent c.args.count (rw (← c.self.view_is) refl) (rw (← c.self.view_is) refl) (rw (← c.self.view_is) refl) (rw (← c.self.view_is) refl)
    (rw (← c.self.view_is) refl)
    (rw (← c.self.view_is, c.give_back.ensures.given_back, c.sent.ensures.sent) refl) h
