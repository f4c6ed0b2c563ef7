use Rattle.std.proofs.Common.{subst}
use Rattle.s3_driver.specs.Account.{Fits}
use Rattle.s3_driver.specs.ServedConnection.{Served, account_of}
use Rattle.s3_driver.proofs.ServedConnectionLemmas.{fits_so}
use Rattle.s3_driver.proofs.served_connection.ServedConnection.account.Goals as goal

pub returns : goal.returns
returns g c =
    let p = c.self.inside.parts in
    let served : Served = record { connection = p.driver.value; traffic = g.S.Device.traffic p.stream; moments = p.moments.entries; seat = p.seat; state = p.waits.state } in
    subst (λ (s : Served). Fits g.J.Ground.base.settings (account_of s) s.seat.mine s.seat.committed) c.self.view_is
    (fits_so c.connections_have_written.ensures g.J.Ground.base.settings served c.self.invariant)
