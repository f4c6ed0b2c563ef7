use Rattle.std.proofs.Common.{◌≡◌, true, false, ap, subst, sym}
use Rattle.s3_session.specs.Output.{is_dead, is_waiting}
use Rattle.s3_session.specs.Session.{Connection, standing_of}
use Rattle.s3_session.specs.Stands.{Stands}
use Rattle.s3_session.specs.Verified.{HoldsVerified, RefusedTakes}
use Rattle.s3_connection.specs.Connection.{Connected}
use Rattle.s3_connection.specs.Output.{past_of}
use Rattle.s3_connection.proofs.connection.Connection.is_verified.Goals as goal

pub returns-clause-verified : goal.returns-clause-verified
returns-clause-verified c settings input moments entries sent h is =
    let past = past_of h.taken h.told moments entries h.waiting in
    let same = ap (λ (k : Connected). k.session) c.self.view_is in
    let stands = subst (λ (s : Connection). Stands s settings past sent) (sym same) h.stands in
    subst (λ (s : Connection). HoldsVerified settings s) same (c.is_verified.ensures.verified settings past sent stands is)

pub returns-clause-told : goal.returns-clause-told
returns-clause-told c settings input moments entries sent h lives holds =
    let past = past_of h.taken h.told moments entries h.waiting in
    let same = ap (λ (k : Connected). k.session) c.self.view_is in
    let stands = subst (λ (s : Connection). Stands s settings past sent) (sym same) h.stands in
    c.is_verified.ensures.told settings past sent stands (subst (λ (s : Connection). is_dead (standing_of s) ≡ false) (sym same) lives)
    (subst (λ (s : Connection). HoldsVerified settings s) (sym same) holds)

pub returns-clause-waits : goal.returns-clause-waits
returns-clause-waits c settings input moments entries sent h waits =
    let past = past_of h.taken h.told moments entries h.waiting in
    let same = ap (λ (k : Connected). k.session) c.self.view_is in
    let stands = subst (λ (s : Connection). Stands s settings past sent) (sym same) h.stands in
    c.is_verified.ensures.waits settings past sent stands (subst (λ (s : Connection). is_waiting (standing_of s) ≡ true) (sym same) waits)

pub returns-clause-died : goal.returns-clause-died
returns-clause-died c settings input moments entries sent h dead is =
    let past = past_of h.taken h.told moments entries h.waiting in
    let same = ap (λ (k : Connected). k.session) c.self.view_is in
    let stands = subst (λ (s : Connection). Stands s settings past sent) (sym same) h.stands in
    subst (λ (s : Connection). (holds : HoldsVerified settings s) → RefusedTakes settings holds.verifies.0 holds.moment) same
    (c.is_verified.ensures.died settings past sent stands (subst (λ (s : Connection). is_dead (standing_of s) ≡ true) (sym same) dead) is)
