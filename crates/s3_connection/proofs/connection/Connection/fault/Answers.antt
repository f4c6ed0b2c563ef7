use Rattle.std.proofs.Common.{◌≡◌, ◌∙◌, ℕ, List, ap, false, true, sym, subst}
use Rattle.s3_session.specs.Fault.{HasNoFault}
use Rattle.s3_session.specs.Output.{Over, is_dead, is_waiting}
use Rattle.s3_connection.specs.Connection.{Connected, standing_of, wants_of}
use Rattle.s3_connection.specs.Holds.{Holds}
use Rattle.s3_connection.proofs.FaultLemmas.{told_received, unheard}
use Rattle.s3_connection.proofs.connection.Connection.fault.Goals as goal

pub returns-clause-some : goal.returns-clause-some
returns-clause-some c settings input moments entries sent h =
    let held = subst (λ (d : Connected). Holds d settings input moments entries sent) (sym c.self.view_is) h in
    told_received _ settings input moments entries sent held c.faults_are_one.ensures.stay c.fault.result (c.fault.ensures.some settings _ sent held.stands)

pub returns-clause-over : goal.returns-clause-over
returns-clause-over c some = subst (λ (d : Connected). standing_of d ≡ Over) c.self.view_is (c.fault.ensures.over some)

pub returns-clause-none : goal.returns-clause-none
returns-clause-none c settings input moments entries sent given h lives other front all is =
    let held = subst (λ (d : Connected). Holds d settings input moments entries sent) (sym c.self.view_is) h in
    let alive = subst (λ (d : Connected). is_dead (standing_of d) ≡ false) (sym c.self.view_is) lives in
    subst (λ (b : List ℕ). HasNoFault settings b input.ended given) (sym held.came)
    (c.fault.ensures.none settings _ sent held.behind input.ended given held.stands alive
    (unheard _ settings input moments entries sent held (λ wants. other (ap wants_of (sym c.self.view_is) ∙ wants))) front
    (λ waits. all (subst (λ (d : Connected). is_waiting (standing_of d) ≡ true) c.self.view_is waits)) is)
