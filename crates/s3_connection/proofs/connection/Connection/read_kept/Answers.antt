use Rattle.std.proofs.Common.{◌∙◌, ap, subst, sym}
use Rattle.s3_session.specs.Session.{moment_if}
use Rattle.s3_connection.specs.Connection.{Connected}
use Rattle.s3_connection.specs.Holds.{Holds}
use Rattle.s3_connection.proofs.FeedingLemmas.{fit_answered}
use Rattle.s3_connection.proofs.HoldsLemmas.{holds_on, idle_stands}
use Rattle.s3_connection.proofs.connection.Connection.read_kept.Goals as goal

pub returns-clause-holds : goal.returns-clause-holds
returns-clause-holds c input moments entries sent h =
    let settings = c.args.config.now in
    let held = subst (λ (d : Connected). Holds d settings input moments entries sent) (sym c.self.view_is) h in
    let at = ap (λ (d : Connected). d.stage) c.self.view_is ∙ c.requires.answered in
    let is = ap (λ (d : Connected). d.is_ended) c.self.view_is ∙ c.requires.goes_on in
    let fit = fit_answered _ _ _ _ at c.self.invariant in
    let t = c.take_kept-stage in
    rw c.become_next.ensures
    (holds_on _ settings input moments entries sent held _ t.new.kept t.result.0 (moment_if t.result.1 c.args.now) at is
    (t.ensures.took held.taken moments entries sent (idle_stands _ settings input moments entries sent held fit.0 fit.1)) t.ensures.fit)
