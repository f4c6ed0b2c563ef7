use Rattle.std.proofs.Common.{◌++◌, [], ◌∷◌, false, subst, sym}
use Rattle.s3_journal.specs.Recorded.{history_of}
use Rattle.s3_simulation.specs.Replaying.{HasCome, Replaying}
use Rattle.s3_simulation.proofs.ReplayLemmas.{came_on}
use Rattle.s3_simulation.proofs.replay.Replay.piece.Goals as goal

pub returns : goal.returns
returns g c base settings moment before h =
    let held = subst (λ (r : Replaying). HasCome r base settings moment before) (sym c.self.view_is) h in
    came_on _ base settings moment before (before ++ c.args.piece.now) c.feed.new.self c.feed.result held
    (c.feed.ensures.plays (moment ∷ []) (record { bytes = before; ended = false }) (history_of c.self.inside.recorded_store.entries))
