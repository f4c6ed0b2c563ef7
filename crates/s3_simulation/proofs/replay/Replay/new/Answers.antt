use Rattle.s3_simulation.proofs.ReplayLemmas.{begun}
use Rattle.s3_simulation.proofs.replay.Replay.new.Goals as goal

pub returns : goal.returns
returns g c = (
  begun c.args.config.now c.args.moment.now c.new-2.result c.in_ok-recorded_store.recorded_store c.from_ref.result.now c.of-rules.result c.args.store.standing
      c.from_ref.ensures.value c.new-2.ensures.begins c.in_ok-recorded_store.ensures c.of-rules.ensures,
  c.new-2.ensures.none,
)
