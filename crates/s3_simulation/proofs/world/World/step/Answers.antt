use Rattle.std.proofs.Common.{[], ◌∷◌, ◌++◌, List, subst, sym}
use Rattle.s3_simulation.specs.Played.{Playing}
use Rattle.s3_simulation.specs.World.{Serving}
use Rattle.s3_simulation.specs.StandsAfter.{HasHappened, StandsAfter}
use Rattle.s3_simulation.proofs.ChangeLemmas.{written_back}
use Rattle.s3_simulation.proofs.PlayedLemmas.{timed_one}
use Rattle.s3_simulation.proofs.WorldLemmas.{on_ok, stands_on}
use Rattle.s3_simulation.proofs.world.World.step.Goals as goal

pub returns-clause-stands : goal.returns-clause-stands
returns-clause-stands g c moments happened s =
    let settings = c.self.inside.config.now in
    let before = c.self.inside.recorded_store in
    let after = c.meet_one-met.new.recorded_store in
    let new = c.meet_one-met.new.connections in
    on_ok c.meet_one-met.result _ _
    (λ (has : HasHappened settings c.args.event.now c.deref_mut.result.now new before after).
    subst (λ (cs : List Playing). StandsAfter (record { settings = settings; connections = cs; recorded_store = after }) moments (happened ++ c.args.event.now ∷ []))
    (sym (written_back c.self.inside.connections c.deref_mut.result.now new c.deref_mut.ensures.value has.count))
    (stands_on (timed_one c.outputs_are_one.ensures) c.connections_write.ensures settings c.args.event.now c.self.inside.connections.items new before after moments happened
    (subst (λ (w : Serving). StandsAfter w moments happened) (sym c.self.view_is) s)
    (subst (λ (old : List Playing). HasHappened settings c.args.event.now old new before after) c.deref_mut.ensures.value has)
    c.store-store.ensures.history))
    c.meet_one-met.ensures.happened
