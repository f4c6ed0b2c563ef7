use Rattle.std.proofs.Common.{◌≡◌, true, ap, subst, sym}
use Rattle.s3_session.specs.Output.{is_dead}
use Rattle.s3_session.specs.Session.{Connection, standing_of}
use Rattle.s3_session.specs.Stands.{Stands}
use Rattle.s3_connection.specs.Connection.{Connected}
use Rattle.s3_connection.specs.Output.{past_of}
use Rattle.s3_connection.proofs.connection.Connection.head.Goals as goal

pub returns-clause-died : goal.returns-clause-died
returns-clause-died c settings input moments entries sent h dead =
    let past = past_of h.taken h.told moments entries h.waiting in
    let same = ap (λ (k : Connected). k.session) c.self.view_is in
    let stands = subst (λ (s : Connection). Stands s settings past sent) (sym same) h.stands in
    c.head.ensures.died settings past sent stands (subst (λ (s : Connection). is_dead (standing_of s) ≡ true) (sym same) dead)
