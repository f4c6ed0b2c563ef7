use Rattle.std.proofs.Common.{subst, sym}
use Rattle.s3_session.specs.Replay.{Replays}
use Rattle.s3_simulation.proofs.ReplayLemmas.{some_found}
use Rattle.s3_simulation.proofs.whole.replay_one.Goals as goal

pub returns-then-not-has_front-clause-output : goal.returns-then-not-has_front-clause-output
returns-then-not-has_front-clause-output c =
    let bytes = c.args.bytes.now in
    let without = c.if-not-has_front.true in
    subst (Replays c.args.config.now c.args.moment bytes) (sym c.new.ensures.items)
    (c.heads_decide.ensures.silent c.args.config.now c.args.moment bytes (c.has_front.ensures.nothing (cc)))

pub returns-clause-asked : goal.returns-clause-asked
returns-clause-asked c =
    let there = c.if-not-has_front.false in
    some_found c.args.bytes.now c.replayed.result (c.has_front.ensures.found (cc))
