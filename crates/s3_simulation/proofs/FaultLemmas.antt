-- The first fault of a connection of a world.
use Rattle.std.proofs.Common.{◌≡◌, ◌≢◌, ◌<◌, ◌+◌, ℕ, true, false, Option, Some, None, IfSome, List, [], ◌++◌, length, take, drop, refl, append_assoc, sym, ap, subst, ◌∙◌, arith}
use mathlib.Core.List.{IsPrefix}
use Rattle.std.specs.List.{slice_get}
use Rattle.std.proofs.lemmas.Bool.{true≢false}
use Rattle.std.proofs.lemmas.List.{drop_at, length-append, take_at}
use Rattle.s3_config.specs.Settings.{Settings}
use Rattle.s3_terms.specs.declared.code.Code.{Code}
use Rattle.s3_machine.specs.History.{Entry}
use Rattle.s3_session.specs.Decision.{Judges, refused_message}
use Rattle.s3_session.specs.Fault.{HasNoFault, IsFault}
use Rattle.s3_session.specs.Laws.{SoundWalksAlone}
use Rattle.s3_session.specs.Output.{Over, is_dead, is_waiting}
use Rattle.s3_session.specs.Walk.{Walks}
use Rattle.s3_session.specs.declared.fault.Fault.{Fault}
use Rattle.s3_events.specs.declared.event.Event.{Event}
use Rattle.s3_connection.specs.declared.stage.Stage.{Stage}
use Rattle.s3_connection.specs.declared.stage.Stage.TheVariants as stages
use Rattle.s3_connection.specs.declared.stage.Wants.TheVariants as wants
use Rattle.s3_connection.specs.Connection.{is_answered_at, wants_at, wants_of}
use Rattle.s3_connection.specs.Holds.{Holds}
use Rattle.s3_connection.specs.Output.{Input}
use Rattle.s3_journal.specs.Recorded.{entries_of_seat}
use Rattle.s3_simulation.specs.Events.{received}
use Rattle.s3_simulation.specs.Faults.{FaultOf, HasNoFaultOf, Tells, TellsIn}
use Rattle.s3_simulation.specs.Moments.{handed}
use Rattle.s3_simulation.specs.Played.{Playing, standing_of}
use Rattle.s3_simulation.specs.Run.{moments_of}
use Rattle.s3_simulation.specs.Shown.{standing_in}
use Rattle.s3_simulation.specs.StandsAfter.{StandsAfter}
use Rattle.s3_simulation.specs.Trimmed.{FaultsHavePlaces}
use Rattle.s3_simulation.specs.World.{Serving}
use Rattle.s3_simulation.proofs.MomentsLemmas.{begins, begins_too}
use Rattle.s3_simulation.proofs.WorldLemmas.{there}

-- nothing is under way where it has not to go on
next_wants : (stage : Stage) → is_answered_at stage ≡ false → wants_at stage ≢ wants.ToGoOn
next_wants stages.Answered next wants = cc
next_wants _ next wants = cc

-- a fault of some moments is one of more
pub more_moments : (settings : Settings) (input : Input) (few many : List ℕ) (number : ℕ) (code : Code) → IsPrefix few many
    → IsFault settings input.bytes input.ended few number code → IsFault settings input.bytes input.ended many number code
more_moments settings input few many number code front f = record {
  messages = f.messages;
  rest = f.rest;
  moment = f.moment;
  head_only = f.head_only;
  walk = f.walk;
  judged = f.judged;
  given = (
    f.given.0 ++ front.0,
    sym (append_assoc _ f.given.0 front.0) ∙ ap (λ (ms : List ℕ). ms ++ front.0) f.given.1 ∙ front.1,
  );
  counted = f.counted;
}

some_of : (settings : Settings) (moments : List ℕ) (input : Input) (count : ℕ) (told : Option Fault)
    → IfSome told (λ fault. IsFault settings input.bytes input.ended (handed moments count) fault.message fault.code)
    → IfSome told (λ fault. FaultOf settings moments input fault.message fault.code)
some_of settings moments input count (Some fault) f = (count, f)
some_of settings moments input count None f = tt

-- what its connection tells
pub tells : (p : Playing) (told : Option Fault)
    → ((settings : Settings) (input : Input) (moments : List ℕ) (entries : List Entry) (sent : List ℕ) → Holds p.connection settings input moments entries sent
    → IfSome told (λ fault. IsFault settings input.bytes input.ended moments fault.message fault.code))
    → (told ≢ None → standing_of p ≡ Over)
    → ((settings : Settings) (input : Input) (moments : List ℕ) (entries : List Entry) (sent given : List ℕ) → Holds p.connection settings input moments entries sent
    → is_dead (standing_of p) ≡ false → wants_of p.connection ≢ wants.ToGoOn → IsPrefix moments given
    → (is_waiting (standing_of p) ≡ true → given ≡ moments) → told ≡ None → HasNoFault settings input.bytes input.ended given)
    → Tells p told
tells p told some over none = record {
  some = λ settings moments input entries plays.
      some_of settings moments input plays.0.count told (some settings input (handed moments plays.0.count) entries [] plays.0.holds);
  over = over;
  none = λ settings moments input entries plays lives rests is number code fault.
      (none settings input (handed moments plays.0.count) entries [] (handed moments (plays.0.count + fault.0)) plays.0.holds lives
      (next_wants p.connection.stage plays.1.0) (begins plays.0.count fault.0 moments) (λ waits. absurd (true≢false (sym waits ∙ rests))) is
      number code (more_moments settings input (handed moments fault.0) (handed moments (plays.0.count + fault.0)) number code (begins_too plays.0.count fault.0 moments) fault.1));
}

-- it is over, where it is there and a fault of it is told
pub over_in : (x : Option Playing) (told : Option Fault) → TellsIn x told → told ≢ None → standing_in x ≡ Over
over_in None told none some = absurd (some none)
over_in (Some p) told t some = t.over some

-- so of the connection of a number
module _ (world : Serving) (moments : List (List ℕ)) (happened : List Event) (s : StandsAfter world moments happened) (c : ℕ) (told : Option Fault) where
  abbrev Told : Type 0
  Told = IfSome told (λ fault. FaultOf world.settings (moments_of c moments) (received c happened) fault.message fault.code)

  some_in : (x : Option Playing) → slice_get world.connections c ≡ x → TellsIn x told → Told
  some_in None is none = subst (λ (t : Option Fault). IfSome t (λ fault. FaultOf world.settings (moments_of c moments) (received c happened) fault.message fault.code)) (sym none) tt
  some_in (Some p) is t = t.some world.settings (moments_of c moments) (received c happened) (entries_of_seat c world.recorded_store.entries) (s.plays c p is)

  pub some_told : TellsIn (slice_get world.connections c) told → Told
  some_told t = some_in (slice_get world.connections c) refl t

  none_in : (x : Option Playing) → slice_get world.connections c ≡ x → TellsIn x told → c < length moments → is_dead (standing_in x) ≡ false
      → is_waiting (standing_in x) ≡ false → told ≡ None → HasNoFaultOf world.settings (moments_of c moments) (received c happened)
  none_in None is t less lives idle none number code fault = absurd (there world.connections c (subst (λ (n : ℕ). c < n) (sym s.each) less) is)
  none_in (Some p) is t less lives idle none number code fault =
      t.none world.settings (moments_of c moments) (received c happened) (entries_of_seat c world.recorded_store.entries) (s.plays c p is) lives idle none number code fault

  pub no_fault : TellsIn (slice_get world.connections c) told → c < length moments → is_dead (standing_in (slice_get world.connections c)) ≡ false
      → is_waiting (standing_in (slice_get world.connections c)) ≡ false → told ≡ None → HasNoFaultOf world.settings (moments_of c moments) (received c happened)
  no_fault t less lives idle none = none_in (slice_get world.connections c) refl t less lives idle none

-- the messages in front of a fault are sound by their own bytes alone
pub faults_have_places : SoundWalksAlone → FaultsHavePlaces
faults_have_places alone settings moments input number code (count, f) =
    let a = alone settings input.ended input.bytes f.rest f.messages f.walk in
    let place = length a.0 in
    let front : take place input.bytes ≡ a.0 = ap (take place) a.1 ∙ take_at a.0 f.rest place refl in
    let behind : drop place input.bytes ≡ f.rest = ap (drop place) a.1 ∙ drop_at a.0 f.rest place refl in (
      place,
      omega (arith, ap length a.1, length-append a.0 f.rest),
      (
        count,
        record {
          messages = f.messages;
          moment = f.moment;
          code = code;
          head_only = f.head_only;
          sound = subst (λ (b : List ℕ). Walks settings false b f.messages (Some [])) (sym front) a.2;
          refused = subst (λ (b : List ℕ). Judges settings f.moment input.ended b (refused_message code f.head_only)) (sym behind) f.judged;
          given = f.given;
        },
      ),
      refl,
      f.counted,
    )
