use Rattle.std.proofs.Common.{◌∙◌, subst, sym}
use Rattle.s3_connection.specs.Connection.{Connected}
use Rattle.s3_connection.specs.Holds.{Holds}
use Rattle.s3_connection.proofs.FeedingLemmas.{reading_at}
use Rattle.s3_connection.proofs.HoldsLemmas.{holds_over}
use Rattle.s3_connection.proofs.connection.Connection.end.Goals as goal

pub returns-then-is_reading-clause-holds : goal.returns-then-is_reading-clause-holds
returns-then-is_reading-clause-holds c settings input moments entries sent h =
    let held = subst (λ (d : Connected). Holds d settings input moments entries sent) (sym c.self.view_is) h in
    let at = reading_at _ (sym c.is_reading.ensures ∙ c.if-is_reading.true) in
    rw c.become_next.ensures
    (holds_over _ settings input moments entries sent held c.end.new.self at (λ past stands. c.end.ensures.stands settings past sent stands)
    c.end.ensures.waits c.end.ensures.end)
