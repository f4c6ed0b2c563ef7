use Rattle.std.proofs.Common.{subst, sym}
use Rattle.s3_simulation.specs.Replaying.{HasTaken, Replaying}
use Rattle.s3_simulation.proofs.ReplayLemmas.{copied, uncopied, written_replays}
use Rattle.s3_simulation.proofs.replay.Replay.written.Goals as goal

pub returns-clause-output : goal.returns-clause-output
returns-clause-output g c base settings moment bytes h =
    let taken = subst (λ (r : Replaying). HasTaken r base settings moment bytes) (sym c.self.view_is) h in
    copied base settings moment bytes _
    (written_replays c.connections_write.ensures _ base settings moment bytes taken c.end.new.self c.end.ensures.plays c.end.ensures.turn c.store-store.ensures.history)
    _ c.all.result c.all.ensures.all

pub returns-clause-memory : goal.returns-clause-memory
returns-clause-memory g c base settings moment bytes h =
    let taken = subst (λ (r : Replaying). HasTaken r base settings moment bytes) (sym c.self.view_is) h in
    uncopied base settings moment bytes _
    (written_replays c.connections_write.ensures _ base settings moment bytes taken c.end.new.self c.end.ensures.plays c.end.ensures.turn c.store-store.ensures.history)
    c.all.result c.all.ensures.memory
