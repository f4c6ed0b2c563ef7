-- A connection that a worker serves.
use Rattle.std.specs.Prelude.{length, ◌≡◌, ◌⊎◌, ◌≤◌, ◌+◌, ◌++◌, ◌∷◌, [], true, false, ℕ, List, Option, None, Some, Result, Ok, Err, IfOk, OnErr, Bool}
use mathlib.Core.List.{IsPrefix}
use Rattle.s3_config.specs.Settings.{Settings}
use Rattle.s3_terms.specs.declared.memory.NoMemory.{NoMemory}
use Rattle.s3_machine.specs.History.{Entry}
use Rattle.s3_machine.specs.declared.command.Answer.{Answer}
use Rattle.s3_machine.specs.declared.turn.Turn.{Turn}
use Rattle.s3_connection.specs.Connection.{Connected, entries_with, turn_of}
use Rattle.s3_devices.specs.Device.{Traffic}
use Rattle.s3_journal.specs.Calls.{IsAnswered, LacksMemory}
use Rattle.s3_journal.specs.SharedStore.{Base, Seated}
use Rattle.s3_journal.specs.Recorded.{Recorded, recorded}
use Rattle.s3_driver.specs.declared.state.Ending.TheVariants as endings
use Rattle.s3_driver.specs.declared.state.Moved.{Moved}
use Rattle.s3_driver.specs.declared.state.State.{State}
use Rattle.s3_driver.specs.declared.state.State.TheVariants as states
use Rattle.s3_driver.specs.Served.{HasAsked, HaveMore, IsAsking, IsLater, IsServed, StandsAt, departure_of, ending_of, progress_of}
use Rattle.s3_driver.specs.Account.{Account, EndsSo}

-- how it stands, all that its stream gave and took, the moments of its messages, its seat at the store, and what it waits for
pub record Served : Type 0 where
  pub connection : Connected
  pub traffic : Traffic
  pub moments : List ℕ
  pub seat : Seated
  pub state : State

-- It was served so, over a stream that has the number of its seat for a name; and if it has ended, as its state says. The stream of one
-- that is closing was told that it takes no more. All its entries, whose answers it was given, were committed.
pub record Stands (settings : Settings) (s : Served) : Type 0 where
  pub named : s.traffic.name ≡ s.seat.number
  pub served : IsServed settings s.connection s.traffic s.moments s.seat.mine
  pub ends : EndsSo settings s.traffic s.moments s.seat.mine (ending_of s.state)
  pub shut : s.state ≡ states.Closing → s.traffic.is_shut ≡ true
  pub committed : s.seat.committed ≡ s.seat.mine

-- what is told of it when it leaves
abbrev pub account_of : Served → Account
account_of s = record { traffic = s.traffic; moments = s.moments; departure = departure_of (ending_of s.state) }

-- It is the same connection, further on: nothing that came or went is undone; its seat is the same; and all messages whose heads became
-- whole meanwhile have this moment.
pub record HasGoneOn (now : ℕ) (old new : Served) : Type 0 where
  pub received : IsPrefix old.traffic.received new.traffic.received
  pub sent : IsPrefix old.traffic.sent new.traffic.sent
  pub seat : new.seat ≡ old.seat
  pub moments : HaveMore now old.moments new.moments

-- nothing came or went, and nothing else happened but to its state
pub record Rests (old new : Served) : Type 0 where
  pub connection : new.connection ≡ old.connection
  pub received : new.traffic.received ≡ old.traffic.received
  pub sent : new.traffic.sent ≡ old.traffic.sent
  pub seat : new.seat ≡ old.seat
  pub moments : new.moments ≡ old.moments

-- no byte is told to have come or gone
pub record IsQuiet (m : Moved) : Type 0 where
  pub read : m.has_read ≡ false
  pub written : m.has_written ≡ false

-- it waits for its peer's end, or has ended
abbrev pub IsEnding : Moved → Type 0
IsEnding m = (m.state ≡ states.Closing) ⊎ ((m.state ≡ states.Ended endings.Closed) × (m.may_go_on ≡ false))

-- it goes on when it is asked to: it has not ended, and no turn of it waits
abbrev pub is_going : State → Bool
is_going states.Message = true
is_going states.Head = true
is_going states.Body = true
is_going states.Room = true
is_going state = false

-- how many moves it makes before others have theirs
abbrev pub moves_each : ℕ
moves_each = 16

-- How one that was going stands after its moves, by whether it may go on at once. Where it stopped, it stands as its state says, and its
-- stream was asked in vain for what it waits for. Where it may go on, it has made all its moves. One that waits for its peer's end
-- is closed in any case.
abbrev pub HasMoved : Bool → State → Served → Served → Type 0
HasMoved on states.Closing old new = StandsAt (states.Ended endings.Closed) new.connection
HasMoved false state old new = StandsAt state new.connection × IsLater state old.traffic new.traffic
HasMoved true state old new =
    (ending_of state ≡ None) × (progress_of old.connection old.traffic + moves_each ≤ progress_of new.connection new.traffic)

-- The store has answered its turn, which is one entry more of the history; or memory ran out there as it may, and the history is as it was.
pub record HasSubmitted (in_memory : Bool) (base : Base) (old new : Seated) (history grown : List Recorded) (turn : Turn)
    (answered : Result Answer NoMemory) : Type 0 where
  pub answer : IfOk answered (λ answer. IsAnswered base old new turn answer)
  pub entry : IfOk answered (λ answer. grown ≡ history ++ recorded old.number turn answer ∷ [])
  pub memory : OnErr answered (LacksMemory in_memory base old new turn)
  pub same : OnErr answered (grown ≡ history)
  pub committed : new.committed ≡ old.committed

-- The turn of a connection was taken to the store, which answered so.
pub record IsAsked (in_memory : Bool) (base : Base) (old new : Connected) (before after : Seated) (history grown : List Recorded)
    (answered : Result Answer NoMemory) : Type 0 where
  pub turn : Turn
  pub waits : turn_of old ≡ Some turn
  pub asked : HasAsked old new turn
  pub submitted : HasSubmitted in_memory base before after history grown turn answered

-- A connection whose turn has come to the store: with what the store said, which it hasn't heard; `None` where it had no turn.
pub record Heard : Type 0 where
  pub served : Served
  pub answered : Option (Result Answer NoMemory)

-- the answer is that of the last entry of what a seat has seen
abbrev pub IsLast : Base → Seated → Answer → Type 0
IsLast base seat answer = answer.number + 1 ≡ base.store.number + length seat.seen

-- One that hears this will have been served so. Its entries were committed, or all but the one of its answer, which is the last entry that
-- its seat has seen.
pub record StandsBefore (base : Base) (s : Served) (answered : Result Answer NoMemory) : Type 0 where
  pub turn : Turn
  pub before : List Entry
  pub named : s.traffic.name ≡ s.seat.number
  pub asks : IsAsking base.settings s.connection s.traffic s.moments before turn
  pub mine : s.seat.mine ≡ entries_with before turn answered
  pub ending : ending_of s.state ≡ None
  pub ends : (entries : List Entry) → EndsSo base.settings s.traffic s.moments entries None
  pub committed : (s.seat.committed ≡ before) ⊎ (s.seat.committed ≡ s.seat.mine)
  pub last : IfOk answered (IsLast base s.seat)

-- what is known before it is asked whether all entries of a seat were committed: they were where no entry was made, and else the answer
-- is that of the last entry that it has seen
abbrev pub MaySettle : Base → Seated → Option (Result Answer NoMemory) → Type 0
MaySettle base seat None = seat.committed ≡ seat.mine
MaySettle base seat (Some (Err none)) = seat.committed ≡ seat.mine
MaySettle base seat (Some (Ok answer)) = IsLast base seat answer

abbrev pub HearsOf : Base → Served → Option (Result Answer NoMemory) → Type 0
HearsOf base s None = Stands base.settings s
HearsOf base s (Some answered) = StandsBefore base s answered
