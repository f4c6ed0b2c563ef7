use Rattle.std.proofs.Common.{ap, sym, ◌∙◌}
use Rattle.s3_session.specs.Session.{Connection}
use Rattle.s3_session.proofs.HeldLemmas.{dead_unrefused, told_at_hand}
use Rattle.s3_session.proofs.session.Session.is_verified.Goals as goal

pub returns-clause-at_hand : goal.returns-clause-at_hand
returns-clause-at_hand c settings past sent h lives verifies =
    ap (λ (s : Connection). s.is_verified) c.self.view_is
    ∙ told_at_hand c.verdicts_stay.ensures.head c.verdicts_stay.ensures.too_large c.verdicts_stay.ensures.pairs c.verdict_is_exact.ensures.head
    c.searches_find.ensures.head settings c.args.self.now past sent h lives verifies

pub returns-clause-died : goal.returns-clause-died
returns-clause-died c settings past sent h dead is holds =
    h.noted.spared (dead_unrefused c.args.self.now.stage dead) (sym (ap (λ (s : Connection). s.is_verified) c.self.view_is) ∙ is) holds
