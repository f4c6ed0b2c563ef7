-- The traffic of a device that did one thing more.
use Rattle.std.proofs.Common.{◌≡◌, ℕ, List, [], ◌∷◌, ◌++◌, Option, None, Some, refl, sym, ap, ◌∙◌, append-nil}
use Rattle.std.specs.Io.KnownBytes.{Appends, Keeps}
use Rattle.s3_devices.specs.Device.{Traffic}
use Rattle.s3_devices.specs.Recorded.{after_events, traffic_of, untouched, with_event}
use Rattle.s3_devices.specs.declared.events.DeviceEvent.{DeviceEvent}

after_push : (t : Traffic) (es : List DeviceEvent) (e : DeviceEvent) → after_events t (es ++ e ∷ []) ≡ with_event (after_events t es) e
after_push t [] e = refl
after_push t (first ∷ es) e = after_push (with_event t first) es e

pub traffic_with : (name : ℕ) (old new : List DeviceEvent) (e : DeviceEvent) → new ≡ old ++ e ∷ [] → traffic_of name new ≡ with_event (traffic_of name old) e
traffic_with name old new e added = ap (traffic_of name) added ∙ after_push (untouched name) old e

-- what is kept has nothing appended
pub appends_nothing : (old new : Option (List ℕ)) → Keeps old new → Appends old new []
appends_nothing None new kept = tt
appends_nothing (Some xs) None kept = absurd kept
appends_nothing (Some xs) (Some ys) kept = kept ∙ sym (append-nil xs)
