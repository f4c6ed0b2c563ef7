use Rattle.std.proofs.Common.{ℕ, List, [], ap, subst, ◌∙◌}
use Rattle.std.proofs.lemmas.Result.{IfOk-weaker}
use Rattle.s3_records.specs.Catalogue.{opening}
use Rattle.s3_store.specs.Steps.{Standing, opened}
use Rattle.s3_simulation.specs.Replaying.{HasTaken}
use Rattle.s3_simulation.proofs.whole.replayed.Goals as goal

pub returns : goal.returns
returns c =
    let settings = c.args.config.now in
    let moment = c.args.moment in
    IfOk-weaker c.written_after-written.result _ _
    (λ out h. c.opened_replays_are_replays.ensures settings moment c.args.bytes.now out.items h)
    (c.written_after-written.ensures (opened (opening settings.buckets)) settings moment
    (subst (λ (from : Standing). HasTaken c.in_ok-replay.replay from settings moment []) (c.in_ok-store.ensures.value ∙ ap (λ (names : List (List ℕ)). opened (opening names)) c.buckets.ensures.value) c.in_ok-replay.ensures))
