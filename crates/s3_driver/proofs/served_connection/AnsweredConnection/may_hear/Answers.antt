use Rattle.s3_driver.specs.ServedConnection.{Served}
use Rattle.s3_driver.proofs.ServedConnectionLemmas.{may_settle, settled_hears}
use Rattle.s3_driver.proofs.served_connection.AnsweredConnection.may_hear.Goals as goal

pub settle-requires : goal.settle-requires
settle-requires g c =
    let p = c.self.inside.parts in
    let served : Served = record { connection = p.driver.value; traffic = g.S.Device.traffic p.stream; moments = p.moments.entries; seat = p.seat; state = p.waits.state } in
    may_settle g.J.Ground.base served c.self.inside.answered c.self.invariant

pub invariant_of-self : goal.invariant_of-self
invariant_of-self g c =
    let p = c.self.inside.parts in
    settled_hears g.J.Ground.base p.driver.value (g.S.Device.traffic p.stream) p.moments.entries p.seat c.settle.new.seat p.waits.state c.self.inside.answered c.self.invariant
    c.settle.ensures.either
