use Rattle.std.proofs.Common.{◌++◌}
use Rattle.s3_simulation.proofs.replay.Replay.take.Goals as goal

pub loop-preserved : goal.loop-preserved
loop-preserved g c base settings moment bytes h = c.turn.ensures.stays base settings moment bytes (c.loop.invariant base settings moment bytes h)

pub returns-then-not-turn : goal.returns-then-not-turn
returns-then-not-turn g c = record {
  taken = λ base settings moment before h.
      (let bytes = before ++ c.args.piece.now in
      let come = c.loop.invariant base settings moment bytes (c.in_ok-piece.ensures base settings moment before h.0) in
      let stopped = c.if-not-turn.true in
      (c.turn.ensures.stays base settings moment bytes come, c.turn.ensures.none (cc)));
}
