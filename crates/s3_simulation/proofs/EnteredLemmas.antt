-- One event more gives the turn that waits for it its entry.
use Rattle.std.proofs.Common.{◌≡◌, ℕ, Bool, List, [], ◌∷◌, ◌++◌, refl, sym, ap, ◌∙◌, subst, append_assoc}
use Rattle.s3_events.specs.declared.event.Event.{Event}
use Rattle.s3_simulation.specs.Entered.{EntersEach}
use Rattle.s3_simulation.specs.StandsAfter.{StandsAfter}
use Rattle.s3_simulation.specs.World.{IsEntered, Serving, turn_of_event}

pub enters_more : (in_memory : Bool) (moments : List (List ℕ)) (happened : List Event) (old : Serving) (events : List Event) (between : Serving) (event : Event) (new : Serving)
    → EntersEach in_memory moments happened old events between → new.settings ≡ between.settings → new.recorded_store.opening ≡ between.recorded_store.opening
    → StandsAfter new moments (happened ++ (events ++ event ∷ []))
    → IsEntered in_memory between.recorded_store new.recorded_store (turn_of_event between.connections event)
    → EntersEach in_memory moments happened old (events ++ event ∷ []) new
enters_more in_memory moments happened old [] between event new same settings opens stands entered = (
  new,
  settings ∙ ap (λ (w : Serving). w.settings) same,
  opens ∙ ap (λ (w : Serving). w.recorded_store.opening) same,
  stands,
  subst (λ (w : Serving). IsEntered in_memory w.recorded_store new.recorded_store (turn_of_event w.connections event)) same entered,
  refl,
)
enters_more in_memory moments happened old (first ∷ events) between event new (next, kept, opened, there, enters, rest) settings opens stands entered =
    let joined = sym (append_assoc happened (first ∷ []) (events ++ event ∷ [])) in (
      next,
      kept,
      opened,
      there,
      enters,
      enters_more in_memory moments (happened ++ first ∷ []) next events between event new rest settings opens (subst (StandsAfter new moments) joined stands) entered,
    )
