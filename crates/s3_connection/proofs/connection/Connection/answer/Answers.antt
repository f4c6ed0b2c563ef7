use Rattle.std.proofs.Common.{◌∙◌, ap, subst, sym}
use Rattle.s3_connection.specs.Connection.{Connected, taken_of}
use Rattle.s3_connection.specs.Holds.{Holds}
use Rattle.s3_connection.proofs.HoldsLemmas.{holds_answered_more, holds_answered_close}
use Rattle.s3_connection.proofs.connection.Connection.answer.Goals as goal

pub returns-in-More-clause-holds : goal.returns-in-More-clause-holds
returns-in-More-clause-holds c settings input moments entries turn sent is h =
    let held = subst (λ (d : Connected). Holds d settings input moments entries sent) (sym c.self.view_is) h in
    let taken = ap taken_of c.self.view_is ∙ is in
    let a = c.answer-next in
    rw c.become_next.ensures
    (holds_answered_more _ settings input moments entries turn sent held taken a.new.self c.args.answered a.result (λ past stands. a.ensures.stands settings past sent stands)
    a.ensures.standing a.ensures.needs c.in-More.is a.ensures.end)

pub returns-in-Close-clause-holds : goal.returns-in-Close-clause-holds
returns-in-Close-clause-holds c settings input moments entries turn sent is h =
    let held = subst (λ (d : Connected). Holds d settings input moments entries sent) (sym c.self.view_is) h in
    let taken = ap taken_of c.self.view_is ∙ is in
    let a = c.answer-next in
    rw (c.become_next-in-Close.ensures, c.new.ensures)
    (holds_answered_close _ settings input moments entries turn sent held taken a.new.self c.args.answered a.result (λ past stands. a.ensures.stands settings past sent stands)
    a.ensures.standing a.ensures.needs c.in-Close.is)
