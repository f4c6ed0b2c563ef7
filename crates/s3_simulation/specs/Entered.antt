-- That each event of a run gives the turn that waits for it its entry.
use Rattle.std.specs.Prelude.{◌≡◌, ℕ, Bool, List, [], ◌∷◌, ◌++◌}
use Rattle.s3_events.specs.declared.event.Event.{Event}
use Rattle.s3_simulation.specs.StandsAfter.{StandsAfter}
use Rattle.s3_simulation.specs.World.{IsEntered, Serving, turn_of_event}

-- One event after another leads from a world, after those that happened before, to another one, of the same settings and the same
-- opening store: each stands after one event more, and has the entry of the turn that waited for that, or memory may be lacking for it.
-- (That the worlds between are those that the run came by is said of each step by `World::step`.)
abbrev pub EntersEach : Bool → List (List ℕ) → List Event → Serving → List Event → Serving → Type 0
EntersEach in_memory moments happened old [] new = new ≡ old
EntersEach in_memory moments happened old (event ∷ events) new =
    (next : Serving) × (next.settings ≡ old.settings) × (next.recorded_store.opening ≡ old.recorded_store.opening)
    × StandsAfter next moments (happened ++ event ∷ [])
    × IsEntered in_memory old.recorded_store next.recorded_store (turn_of_event old.connections event)
    × EntersEach in_memory moments (happened ++ event ∷ []) next events new
