use Rattle.s3_driver.specs.ServedConnection.{Served}
use Rattle.s3_driver.proofs.ServedConnectionLemmas.{fits_so}
use Rattle.s3_driver.proofs.served_connection.ServedConnection.leave.Goals as goal

pub leave-requires-clause-fits : goal.leave-requires-clause-fits
leave-requires-clause-fits g c =
    let p = c.self.inside.parts in
    let served : Served = record { connection = p.driver.value; traffic = g.S.Device.traffic p.stream; moments = p.moments.entries; seat = p.seat; state = p.waits.state } in
    fits_so c.connections_have_written.ensures g.J.Ground.base.settings served c.self.invariant
