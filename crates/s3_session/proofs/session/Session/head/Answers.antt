use Rattle.std.proofs.Common.{◌∙◌, ap, subst, sym}
use Rattle.s3_http_heads.specs.Search.{Holds, is_lost}
use Rattle.s3_session.specs.Session.{Connection}
use Rattle.s3_session.proofs.HeldLemmas.{dead_said}
use Rattle.s3_session.proofs.session.Session.head.Goals as goal

pub returns-clause-died : goal.returns-clause-died
returns-clause-died c settings past sent h dead =
    dead_said settings c.args.self.now past sent h dead c.text.result (c.text.ensures.lost ∙ ap (λ (s : Connection). is_lost s.search) c.self.view_is)
    (λ bytes held. c.text.ensures.text bytes (subst (λ (s : Connection). Holds s.search bytes) (sym c.self.view_is) held))
