use Rattle.std.proofs.Common.{[]}
use Rattle.s3_simulation.proofs.whole.written_after.Goals as goal

pub returns : goal.returns
returns g c base settings moment h = c.written.ensures.output base settings moment c.args.bytes.now (c.in_ok-feed.ensures.taken base settings moment [] h)
