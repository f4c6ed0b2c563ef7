use Rattle.std.proofs.Common.{List, ap, subst, ◌∙◌}
use Rattle.s3_machine.specs.History.{Entry}
use Rattle.s3_connection.specs.Connection.{Connected}
use Rattle.s3_driver.specs.Served.{IsServed, ending_of}
use Rattle.s3_driver.specs.ServedConnection.{Served}
use Rattle.s3_driver.proofs.ServedConnectionLemmas.{step_stands}
use Rattle.s3_driver.proofs.served_connection.ServedConnection.step.Goals as goal

pub invariant_of-self : goal.invariant_of-self
invariant_of-self g c =
    let p = c.self.inside.parts in
    let moved = c.go_on-moved in
    let config = c.args.config.now in
    let before = g.S.Device.traffic p.stream in
    let after = g.S.Device.traffic moved.new.device in
    let serves = subst (λ (d : Connected). (entries : List Entry) → IsServed config d before p.moments.entries entries → IsServed config moved.new.self after moved.new.moments.entries entries)
    c.deref_mut-driver.ensures.value moved.ensures.served in
    step_stands c.connections_end.ensures g.J.Ground.base.settings config p.driver.value moved.new.self
    before after p.moments.entries moved.new.moments.entries p.seat p.waits.state moved.result.state c.note.new.self.state moved.result.may_go_on
    c.requires.settings c.self.invariant (ap (λ (s : Served). ending_of s.state) c.self.view_is ∙ c.requires.goes)
    serves moved.ensures.goes_on moved.ensures.met moved.ensures.stops c.note.ensures
