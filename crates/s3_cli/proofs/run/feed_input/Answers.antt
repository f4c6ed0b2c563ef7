use Rattle.std.proofs.Common.{◌++◌, take}
use Rattle.s3_cli.proofs.ReadingLemmas.{fed_more, piece_came}
use Rattle.s3_cli.proofs.run.feed_input.Goals as goal

pub loop-preserved : goal.loop-preserved
loop-preserved g c =
    let (given, gave, fed) = c.loop.invariant in
    let piece = take c.in-Some-2.count c.read_piece.new.buffer in (
      given ++ piece,
      piece_came (g.D.Device.traffic c.args.device.now) (g.D.Device.traffic c.loop.device) (g.D.Device.traffic c.read_piece.new.device) given c.read_piece.new.buffer c.in-Some-2.count _ gave c.in-Some-2.is c.in_ok-count.ensures.read,
      fed_more _ _ _ given piece fed c.in_ok-feed-in-Some-2.ensures.taken,
    )
