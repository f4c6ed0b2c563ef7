use Rattle.s3_driver.proofs.ServedConnectionLemmas.{turned_away_fits}
use Rattle.s3_driver.proofs.turned_away.turn_away.Goals as goal

pub leave-requires-clause-fits : goal.leave-requires-clause-fits
leave-requires-clause-fits g c =
    turned_away_fits c.connections_are_served.ensures c.connections_have_written.ensures g.J.Ground.base.settings c.new.result (g.S.Device.traffic c.args.stream)
    c.args.seat.number c.args.seat.mine c.args.seat.committed c.new.ensures.new c.requires.traffic c.requires.entries c.commits.ensures
