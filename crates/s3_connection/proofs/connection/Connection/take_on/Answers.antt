use Rattle.std.proofs.Common.{◌++◌, ◌∙◌, ap, false, subst, sym, true}
use Rattle.s3_session.specs.Session.{moment_if}
use Rattle.s3_connection.specs.Connection.{Connected}
use Rattle.s3_connection.specs.Holds.{Holds}
use Rattle.s3_connection.proofs.HoldsLemmas.{holds_again, holds_reopened}
use Rattle.s3_connection.proofs.connection.Connection.take_on.Goals as goal

pub returns-then-is_ended-clause-holds : goal.returns-then-is_ended-clause-holds
returns-then-is_ended-clause-holds c input moments entries sent h =
    let settings = c.args.config.now in
    let held = subst (λ (d : Connected). Holds d settings input moments entries sent) (sym c.self.view_is) h in
    let at = ap (λ (d : Connected). d.stage) c.self.view_is ∙ c.requires.answered in
    let later = moments ++ moment_if c.read_kept-has_moment.result c.args.now in
    holds_again _ settings input moments entries sent held c.end.new.self later true c.if-is_ended.true
    (c.end.ensures.holds settings (record input { ended = false }) later entries sent
    (c.read_kept-has_moment.ensures.holds (record input { ended = false }) moments entries sent (holds_reopened _ settings input moments entries sent held at)))
