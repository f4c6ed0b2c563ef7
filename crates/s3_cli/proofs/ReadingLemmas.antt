-- What a device gives over several reads, and what follows from it.
use Rattle.std.proofs.Common.{◌≡◌, ◌∙◌, ℕ, Bool, List, ◌++◌, take, Option, Some, Result, Ok, Err, ap, append_assoc, subst, sym}
use Rattle.std.specs.Prelude.{⊤, IfErr, IfOk, OnOk}
use Rattle.std.specs.Global.{Vec}
use Rattle.s3_config.specs.Settings.{Settings}
use Rattle.s3_devices.specs.Device.{Traffic}
use Rattle.s3_settings.specs.declared.fault.Fault.{Fault}
use Rattle.s3_settings.specs.declared.fault.Fault.TheVariants.{CannotRead, CannotWrite, BadKeysLine, BadEventLine, BadSetting, CannotListen, CannotUse, InputFailed, OutputFailed, OutOfMemory}
use Rattle.s3_settings.specs.declared.mode.ReplayMode.{ReplayMode}
use Rattle.s3_settings.specs.Devices.{Gives, GivesAll, GivesSome, Reads}
use Rattle.s3_text.specs.Lines.{lines_of}
use Rattle.s3_events.specs.declared.script.Script.{Script}
use Rattle.s3_events.specs.Script.{IsScriptOf}
use Rattle.s3_store.specs.Steps.{Standing}
use Rattle.s3_simulation.specs.Replaying.{HasTaken, Replaying}
use Rattle.s3_cli.specs.Reading.{IsAnswerFault, IsFed, IsReadingFault}
use Rattle.s3_cli.specs.Run.{IsEventsAnswered, IsScriptAnsweredAs}

-- one piece more came
pub piece_came : (old between new : Traffic) (given buffer : List ℕ) (count : ℕ) (read : Option ℕ) → Gives old between given → read ≡ Some count → Reads read between new buffer → Gives old new (given ++ take count buffer)
piece_came old between new given buffer count read before is came =
    let now : Gives between new (take count buffer) = subst (λ (r : Option ℕ). Reads r between new buffer) is came in
    now ∙ ap (λ (t : Traffic). record t { received = t.received ++ take count buffer; late_reads = new.late_reads }) before
    ∙ ap (λ (bytes : List ℕ). record old { received = bytes; late_reads = new.late_reads }) (append_assoc old.received given (take count buffer))

-- a replay was fed with it
pub fed_more : (first between new : Replaying) (given more : List ℕ) → IsFed first between given → IsFed between new more → IsFed first new (given ++ more)
fed_more first between new given more before now base settings moment bytes h =
    subst (HasTaken new base settings moment) (append_assoc bytes given more) (now base settings moment (bytes ++ given) (before base settings moment bytes h))

-- bytes that were given whole were given
pub all_some : (P : List ℕ → Type 0) (old new : Traffic) → GivesAll P old new → GivesSome old new
all_some P old new all = record {
  bytes = all.bytes;
  given = all.given ∙ ap (λ (ended : Bool). record old { received = old.received ++ all.bytes; is_ended = ended; late_reads = new.late_reads }) (sym (ap (λ (t : Traffic). t.is_ended) all.given));
}

-- what holds of what was given holds of what was made of it
pub gives_ok : {T E : Type 0} (P : List ℕ → Type 0) (Q : T → List ℕ → Type 0) (old new : Traffic) (r : Result T E)
    → ((bytes : List ℕ) → P bytes → IfOk r (λ x. Q x bytes)) → GivesAll P old new → IfOk r (λ x. GivesAll (Q x) old new)
gives_ok P Q old new (Err e) leads h = tt
gives_ok P Q old new (Ok x) leads h = record { bytes = h.bytes; given = h.given; is = leads h.bytes h.is }

-- what was given, whatever is said of it
pub given_all : {T E : Type 0} (P : List ℕ → Type 0) (old new : Traffic) (r : Result T E) → GivesAll P old new → OnOk r (GivesAll (λ bytes. ⊤) old new)
given_all P old new (Ok x) all = record { bytes = all.bytes; given = all.given; is = tt }
given_all P old new (Err e) all = tt

-- what was made of it is something else, too
pub gives_weaker : {T E : Type 0} (P Q : T → List ℕ → Type 0) (old new : Traffic) (r : Result T E)
    → ((x : T) (bytes : List ℕ) → P x bytes → Q x bytes) → IfOk r (λ x. GivesAll (P x) old new) → IfOk r (λ x. GivesAll (Q x) old new)
gives_weaker P Q old new (Ok x) leads h = record { bytes = h.bytes; given = h.given; is = leads x h.bytes h.is }
gives_weaker P Q old new (Err e) leads h = tt

-- the script of the event lines that were read is answered so
pub script_answered : {E : Type 0} (faults : Bool) (base : Standing) (settings : Settings) (script : Script) (old new : Traffic) (r : Result (Vec ℕ) E)
    → GivesAll (λ bytes. IsScriptOf (lines_of bytes) script) old new → IfOk r (λ out. IsScriptAnsweredAs faults base settings script out.items)
    → IfOk r (λ text. GivesAll (λ bytes. IsEventsAnswered faults base settings bytes text.items) old new)
script_answered faults base settings script old new (Err e) all answered = tt
script_answered faults base settings script old new (Ok out) all answered = record {
  bytes = all.bytes;
  given = all.given;
  is = record { script = script; spells = all.is; answered = answered };
}

-- memory ran out behind it
pub gives_memory : {T : Type 0} (P : List ℕ → Type 0) (old new : Traffic) (r : Result T Fault) → IfErr r (λ fault. fault ≡ OutOfMemory) → GivesAll P old new → IfErr r (IsReadingFault old new)
gives_memory P old new (Ok x) is all = tt
gives_memory P old new (Err fault) is all = subst (IsReadingFault old new) (sym is) (all_some P old new all)

-- what can't be read has no answer
pub reading_answer : (mode : ReplayMode) (old new : Traffic) (fault : Fault) → IsReadingFault old new fault → IsAnswerFault mode old new fault
reading_answer mode old new (CannotRead path) why = absurd why
reading_answer mode old new (CannotWrite path) why = absurd why
reading_answer mode old new (BadKeysLine number) why = absurd why
reading_answer mode old new (BadEventLine number) why = absurd why
reading_answer mode old new BadSetting why = absurd why
reading_answer mode old new (CannotListen address) why = absurd why
reading_answer mode old new (CannotUse path cause) why = absurd why
reading_answer mode old new InputFailed why = why
reading_answer mode old new OutputFailed why = absurd why
reading_answer mode old new OutOfMemory why = why

pub reading_answers : {T : Type 0} (mode : ReplayMode) (old new : Traffic) (r : Result T Fault) → IfErr r (IsReadingFault old new) → IfErr r (IsAnswerFault mode old new)
reading_answers mode old new (Ok x) why = tt
reading_answers mode old new (Err fault) why = reading_answer mode old new fault why

pub ruleset readings = reading_answers
