use Rattle.std.proofs.Common.{subst, sym}
use Rattle.s3_driver.specs.declared.state.Departure.{Departure}
use Rattle.s3_driver.specs.Account.{Fits}
use Rattle.s3_driver.proofs.served_connection.Parts.leave.Goals as goal

pub leave-requires-clause-fits : goal.leave-requires-clause-fits
leave-requires-clause-fits g c =
    let p = c.args.self in
    subst (λ (d : Departure). Fits g.J.Ground.base.settings (record { traffic = g.S.Device.traffic p.stream; moments = p.moments.entries; departure = d }) p.seat.mine p.seat.committed)
    (sym c.departure.ensures) c.requires.fits
