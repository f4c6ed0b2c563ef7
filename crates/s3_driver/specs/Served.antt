-- A connection that is served over a device, and how it stands after all that it did there.
-- `IsServed` is what the clauses of a step carry along. What it comes to is said by the laws at the end. So its inside need not
-- be believed.
use Rattle.std.specs.Prelude.{◌≡◌, ◌≢◌, ◌⊎◌, ◌||◌, ◌<◌, ◌≤◌, ◌+◌, ◌*◌, nat_lt, length, ℕ, Bool, true, false, List, [], ◌∷◌, ◌++◌, Option, None, Some, Result, IfOk, OnErr}
use Rattle.std.specs.List.{AllByRecursion}
use mathlib.Core.List.{IsPrefix}
use Rattle.s3_config.specs.Settings.{Settings}
use Rattle.s3_machine.specs.History.{Entry}
use Rattle.s3_machine.specs.declared.command.Answer.{Answer}
use Rattle.s3_machine.specs.declared.turn.Turn.{Turn}
use Rattle.s3_terms.specs.declared.memory.NoMemory.{NoMemory}
use Rattle.s3_connection.specs.declared.stage.Stage.{Stage}
use Rattle.s3_connection.specs.declared.stage.Stage.TheVariants as stages
use Rattle.s3_connection.specs.declared.stage.Wants.TheVariants as wanted
use Rattle.s3_connection.specs.Connection.{Connected, entries_with, nothing_received, taken_of, unsent_of, wants_of}
use Rattle.s3_connection.specs.Holds.{Holds}
use Rattle.s3_connection.specs.Output.{Input}
use Rattle.s3_devices.specs.Device.{Traffic}
use Rattle.s3_devices.specs.Recorded.{untouched}
use Rattle.s3_journal.specs.Recorded.{entry_of}
use Rattle.s3_driver.specs.declared.state.Departure.{Departure}
use Rattle.s3_driver.specs.declared.state.Departure.TheVariants as departures
use Rattle.s3_driver.specs.declared.state.Ending.{Ending}
use Rattle.s3_driver.specs.declared.state.Ending.TheVariants as endings
use Rattle.s3_driver.specs.declared.state.Moved.{Moved}
use Rattle.s3_driver.specs.declared.state.State.{State}
use Rattle.s3_driver.specs.declared.state.State.TheVariants as states
use Rattle.s3_driver.specs.Ended.{Ends, Fails, HasWritten, input_of}

-- it holds all that its device gave, these moments and these entries, and sent what its device took; and no turn of it is being
-- answered
pub record IsServed (settings : Settings) (c : Connected) (traffic : Traffic) (moments : List ℕ) (entries : List Entry) : Type 0 where
  pub holds : Holds c settings (input_of traffic) moments entries traffic.sent
  pub idle : taken_of c ≡ None

-- a connection of which nothing came
pub record IsNew (c : Connected) : Type 0 where
  pub begins : (settings : Settings) → Holds c settings nothing_received [] [] []
  pub idle : taken_of c ≡ None

-- there are more moments, all of which are this one
pub record HaveMore (now : ℕ) (old new : List ℕ) : Type 0 where
  pub more : List ℕ
  pub added : new ≡ old ++ more
  pub all : AllByRecursion (λ (m : ℕ). m ≡ now) more

-- it is the same device; nothing that it gave or took is undone, and it wasn't told that it takes no more
pub record GoesOn (before after : Traffic) : Type 0 where
  pub named : after.name ≡ before.name
  pub received : IsPrefix before.received after.received
  pub sent : IsPrefix before.sent after.sent
  pub shut : after.is_shut ≡ before.is_shut

-- some of what a connection had to send went out
pub record HasSent (old new : Connected) (before after : Traffic) : Type 0 where
  pub bytes : List ℕ
  pub traffic : after ≡ record before { sent = before.sent ++ bytes; failed_writes = after.failed_writes; late_writes = after.late_writes }
  pub holds : (settings : Settings) (input : Input) (moments : List ℕ) (entries : List Entry) (sent : List ℕ)
      → Holds old settings input moments entries sent → Holds new settings input moments entries (sent ++ bytes)
  pub stage : new.stage ≡ old.stage

-- a connection took these bytes more, as far as they go, with this moment for a message or none
pub record HasTaken (settings : Settings) (now : ℕ) (old new : Connected) (bytes before after : List ℕ) : Type 0 where
  pub moments : HaveMore now before after
  pub holds : (input : Input) (entries : List Entry) (sent : List ℕ) → input.ended ≡ old.is_ended
      → Holds old settings input before entries sent
      → Holds new settings (record { bytes = input.bytes ++ bytes; ended = input.ended }) after entries sent
  pub idle : taken_of old ≡ None → taken_of new ≡ None

-- what a read brought it: some bytes, the end, or nothing
pub record HasRead (settings : Settings) (now : ℕ) (old new : Connected) (before after : Traffic) (earlier later : List ℕ) : Type 0 where
  pub moments : HaveMore now earlier later
  pub named : after.name ≡ before.name
  pub sent : after.sent ≡ before.sent
  pub shut : after.is_shut ≡ before.is_shut
  pub holds : (entries : List Entry) (sent : List ℕ)
      → Holds old settings (input_of before) earlier entries sent → Holds new settings (input_of after) later entries sent
  pub idle : taken_of old ≡ None → taken_of new ≡ None

-- Its turn was handed out, and waits for its answer.
pub record HasAsked (old new : Connected) (turn : Turn) : Type 0 where
  pub holds : (settings : Settings) (input : Input) (moments : List ℕ) (entries : List Entry) (sent : List ℕ)
      → Holds old settings input moments entries sent → Holds new settings input moments entries sent
  pub taken : taken_of new ≡ Some turn

-- a connection holds all that its device gave, these moments and these entries, and sent what its device took; and this turn of it is
-- being answered
pub record IsAsking (settings : Settings) (c : Connected) (traffic : Traffic) (moments : List ℕ) (entries : List Entry) (turn : Turn) : Type 0 where
  pub holds : Holds c settings (input_of traffic) moments entries traffic.sent
  pub taken : taken_of c ≡ Some turn

-- A turn was taken to a handle, which made an entry of it, or made none since memory may be lacking for it; and its connection has heard
-- of just that.
pub record HasCalled (may_lack : Turn → Type 0) (before after : List Entry) (old new : Connected) (turn : Turn) : Type 0 where
  pub answered : Result Answer NoMemory
  pub entry : IfOk answered (λ answer. after ≡ before ++ entry_of turn answer ∷ [])
  pub same : OnErr answered (after ≡ before)
  pub memory : OnErr answered (may_lack turn)
  pub heard : (settings : Settings) (traffic : Traffic) (moments : List ℕ) (entries : List Entry)
      → IsServed settings old traffic moments entries → IsServed settings new traffic moments (entries_with entries turn answered)

-- how it has ended, if it has
abbrev pub ending_of : State → Option Ending
ending_of (states.Ended ending) = Some ending
ending_of states.Closing = Some endings.Closed
ending_of _ = None

-- how one leaves that has ended so, or that has not ended
abbrev pub departure_of : Option Ending → Departure
departure_of None = departures.GivenUp
departure_of (Some ending) = departures.Ended ending

-- A device was asked in vain for what is waited for: bytes, or room.
abbrev pub IsLater : State → Traffic → Traffic → Type 0
IsLater states.Message old new = old.late_reads < new.late_reads
IsLater states.Head old new = old.late_reads < new.late_reads
IsLater states.Body old new = old.late_reads < new.late_reads
IsLater states.Room old new = old.late_writes < new.late_writes
IsLater _ old new = Unit {0}

-- it waits for bytes, or may go on
abbrev pub IsForInput : State → Type 0
IsForInput state = (state ≡ states.Message) ⊎ (state ≡ states.Head) ⊎ (state ≡ states.Body)

-- failures of a device by how its connection stands: one that has ended met none but the one that it ended with, and any other none
abbrev pub FailsSo : Option Ending → Traffic → Traffic → Type 0
FailsSo None old new = Fails endings.Closed old new
FailsSo (Some ending) old new = Fails ending old new

-- What a move says of its device: a connection that waits asked it in vain; one that may go on asked it no less.
abbrev pub HasMet : Bool → State → Traffic → Traffic → Type 0
HasMet true state old new = Fails endings.Closed old new × (old.late_reads ≤ new.late_reads) × (old.late_writes ≤ new.late_writes)
HasMet false state old new = FailsSo (ending_of state) old new × IsLater state old new

-- bytes came or went where that is told
pub record TellsMoves (m : Moved) (old new : Traffic) : Type 0 where
  pub read : m.has_read ≡ nat_lt (length old.received) (length new.received)
  pub written : m.has_written ≡ nat_lt (length old.sent) (length new.sent)

-- what was done in two moves
abbrev pub moved_then : Moved → Moved → Moved
moved_then m n = record {
  state = n.state;
  may_go_on = n.may_go_on;
  has_read = m.has_read || n.has_read;
  has_written = m.has_written || n.has_written;
}

-- How far a connection has come: the bytes that came and went, and what it does next. Each move adds to it.
abbrev pub stage_weight : Stage → ℕ
stage_weight stages.Answered = 0
stage_weight (stages.Waiting turn) = 1
stage_weight (stages.HandedOut turn) = 1
stage_weight stages.Reading = 2
stage_weight stages.Done = 3

abbrev pub weight_of : Connected → Traffic → ℕ
weight_of c traffic = 4 * length traffic.received + stage_weight c.stage

abbrev pub progress_of : Connected → Traffic → ℕ
progress_of c traffic = weight_of c traffic + length traffic.sent

-- how a connection stands that waits so, or has ended so: all that it wrote is out, unless it waits for that or a write failed; whether its
-- device was told that it takes no more is not its own
abbrev pub StandsAt : State → Connected → Type 0
StandsAt states.Message c = (wants_of c ≡ wanted.Input) × (unsent_of c ≡ [])
StandsAt states.Head c = (wants_of c ≡ wanted.Input) × (unsent_of c ≡ [])
StandsAt states.Body c = (wants_of c ≡ wanted.Input) × (unsent_of c ≡ [])
StandsAt states.Turn c = (wants_of c ≡ wanted.Answer) × (unsent_of c ≡ [])
StandsAt states.Room c = unsent_of c ≢ []
StandsAt states.Closing c = ⊥
StandsAt (states.Ended endings.Closed) c = (wants_of c ≡ wanted.Nothing) × (unsent_of c ≡ [])
StandsAt (states.Ended endings.ReadFailed) c = (wants_of c ≡ wanted.Input) × (unsent_of c ≡ [])
StandsAt (states.Ended endings.WriteFailed) c = Unit {0}

-- so where it stopped, and where it may go on it has not ended
abbrev pub StopsAt : Bool → State → Connected → Type 0
StopsAt true state c = ending_of state ≡ None
StopsAt false state c = StandsAt state c

-- ---- what it comes to

-- a new connection is served, whatever its device is called
abbrev pub ConnectionsAreServed : Type 0
ConnectionsAreServed = (settings : Settings) (c : Connected) (name : ℕ) → IsNew c → IsServed settings c (untouched name) [] []

-- one that is served, or whose turn is being answered, has written a beginning of its output
abbrev pub ConnectionsHaveWritten : Type 0
ConnectionsHaveWritten =
    (settings : Settings) (c : Connected) (traffic : Traffic) (moments : List ℕ) (entries : List Entry)
    → Holds c settings (input_of traffic) moments entries traffic.sent → HasWritten settings traffic moments entries

-- and one that has ended what its ending says
abbrev pub ConnectionsEnd : Type 0
ConnectionsEnd =
    (settings : Settings) (c : Connected) (traffic : Traffic) (moments : List ℕ) (entries : List Entry) (ending : Ending)
    → IsServed settings c traffic moments entries → StandsAt (states.Ended ending) c → Ends settings traffic moments entries ending
