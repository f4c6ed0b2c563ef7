use Rattle.std.proofs.Common.{ℕ, List, [], subst}
use Rattle.std.specs.Global.{Vec}
use Rattle.s3_records.specs.Catalogue.{opening}
use Rattle.s3_session.specs.Replay.{Replays}
use Rattle.s3_store.specs.Steps.{Standing, opened}
use Rattle.s3_simulation.specs.Replaying.{HasTaken, ReplaysFrom}
use Rattle.s3_cli.proofs.ReadingLemmas.{gives_weaker}
use Rattle.s3_cli.proofs.run.answers.Goals as goal

pub returns-clause-value : goal.returns-clause-value
returns-clause-value g c =
    let settings = c.args.config.now in
    let moment = c.args.moment in
    let base = opened (opening settings.buckets) in
    gives_weaker (λ (text : Vec ℕ) (bytes : List ℕ). ReplaysFrom base settings moment bytes text.items)
    (λ (text : Vec ℕ) (bytes : List ℕ). Replays settings moment bytes text.items) _ _ c.written_after-written.result
    (λ text bytes. c.opened_replays_are_replays.ensures settings moment bytes text.items)
    (c.written_after-written.ensures.value base settings moment
    (subst (λ (from : Standing). HasTaken c.in_ok-replay.replay from settings moment []) c.in_ok-store.ensures c.in_ok-replay.ensures))
