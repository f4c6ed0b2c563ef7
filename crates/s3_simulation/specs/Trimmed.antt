-- Events without what is refused: how much of the events of each connection is kept, and what that leaves.
use Rattle.std.specs.Prelude.{◌≡◌, ◌⊎◌, ◌≤◌, ◌<◌, ℕ, min, ◌-◌, ◌==◌, ⊤, Bool, true, false, if◌then◌else◌, List, [], ◌∷◌, ◌++◌, length, map, take, drop}
use Rattle.std.specs.List.{list_any}
use Rattle.s3_config.specs.Settings.{Settings}
use Rattle.s3_terms.specs.declared.code.Code.{Code}
use Rattle.s3_machine.specs.declared.turn.Turn.{Turn}
use Rattle.s3_journal.specs.Recorded.{Recorded}
use Rattle.s3_events.specs.Lines.{ATurn, MoreBytes, Said, TheEnd}
use Rattle.s3_events.specs.Script.{connection_of_event, said_of_event}
use Rattle.s3_events.specs.declared.event.Event.{Event}
use Rattle.s3_events.specs.declared.event.Event.TheVariants as events
use Rattle.s3_session.specs.Fault.{IsRefusedBehind, most_counted}
use Rattle.s3_connection.specs.Output.{Input}
use Rattle.s3_simulation.specs.Events.{received}
use Rattle.s3_simulation.specs.Faults.{FaultOf}
use Rattle.s3_simulation.specs.Laws.{IsWhole}
use Rattle.s3_simulation.specs.Moments.{handed}
use Rattle.s3_simulation.specs.Run.{Runs, moments_of, output_of}
use Rattle.s3_simulation.specs.Timed.{Waits}

-- how much of the events of a connection is kept: none of them; all; or its turns and so many first bytes, without an end. Pieces
-- without bytes are dropped in any case.
pub data Share : Type 0 where
  Nothing : Share
  All : Share
  UpTo : ℕ → Share

-- ---- what a connection's share may be

-- a connection that received this has a sound message: its first one, whose command waits as long as it has had no turn; where the
-- first isn't sound, none behind it counts
abbrev pub HasSound : Settings → List ℕ → Input → Type 0
HasSound settings moments input = (turn : Turn) × Waits settings moments input [] turn

-- one of its messages is refused within so many first bytes
abbrev pub IsRefusedWithin : Settings → List ℕ → Input → ℕ → Type 0
IsRefusedWithin settings moments input place =
    (number : ℕ) × (code : Code) × FaultOf settings moments (record { bytes = take place input.bytes; ended = false }) number code

-- so many first bytes are whole sound messages, and the message behind them is refused, by its bytes or by the end
abbrev pub IsRefusedAt : Settings → List ℕ → Input → ℕ → Type 0
IsRefusedAt settings moments input place =
    (count : ℕ) × IsRefusedBehind settings input.ended (take place input.bytes) (drop place input.bytes) (handed moments count)

-- what is dropped is of a connection of which no message is sound, or it is behind one that is refused, or that one with all behind it
abbrev pub MayBe : Settings → List ℕ → Input → Share → Type 0
MayBe settings moments input Nothing = ¬ (HasSound settings moments input)
MayBe settings moments input All = ⊤
MayBe settings moments input (UpTo place) =
    (place ≤ length input.bytes) × (IsRefusedWithin settings moments input place ⊎ IsRefusedAt settings moments input place)

-- and nothing is dropped for which the connection wrote something
abbrev pub KeepsOutput : Settings → List ℕ → Input → Share → Type 0
KeepsOutput settings moments input Nothing = ⊥
KeepsOutput settings moments input All = ⊤
KeepsOutput settings moments input (UpTo place) = IsRefusedWithin settings moments input place

-- no less than that is dropped: where a message is sound, all behind the byte at which the first refused one is refused, or nothing,
-- where no byte refuses one (the end may)
abbrev pub IsShare : Settings → List ℕ → Input → Share → Type 0
IsShare settings moments input Nothing = ¬ (HasSound settings moments input)
IsShare settings moments input All = HasSound settings moments input × ((n : ℕ) → ¬ (IsRefusedWithin settings moments input n))
IsShare settings moments input (UpTo place) =
    HasSound settings moments input
    × (place ≤ length input.bytes)
    × IsRefusedWithin settings moments input place
    × ((n : ℕ) → n < place → ¬ (IsRefusedWithin settings moments input n))

-- what each connection's share of these events may be, where they have these lists of moments; of one that isn't there nothing is kept
pub record MayBeShares (settings : Settings) (moments : List (List ℕ)) (happened : List Event) (share : ℕ → Share) : Type 0 where
  pub there : (c : ℕ) → c < length moments → MayBe settings (moments_of c moments) (received c happened) (share c)
  pub nowhere : (c : ℕ) → length moments ≤ c → share c ≡ Nothing

-- and what it is
pub record AreShares (settings : Settings) (moments : List (List ℕ)) (happened : List Event) (share : ℕ → Share) : Type 0 where
  pub there : (c : ℕ) → c < length moments → IsShare settings (moments_of c moments) (received c happened) (share c)
  pub nowhere : (c : ℕ) → length moments ≤ c → share c ≡ Nothing

-- ---- what is left of the events

-- what is kept of a piece before which so many bytes were received
abbrev pub part_kept : Share → ℕ → List ℕ → List ℕ
part_kept Nothing received bytes = []
part_kept All received bytes = bytes
part_kept (UpTo place) received bytes = take (place - received) bytes

abbrev pub keeps_turns : Share → Bool
keeps_turns Nothing = false
keeps_turns All = true
keeps_turns (UpTo place) = true

abbrev pub keeps_end : Share → Bool
keeps_end Nothing = false
keeps_end All = true
keeps_end (UpTo place) = false

-- a piece, if it has bytes
abbrev pub piece_of : ℕ → List ℕ → List Said
piece_of connection [] = []
piece_of connection (byte ∷ bytes) = MoreBytes connection (byte ∷ bytes) ∷ []

-- What is kept of an event after others. What stands behind an end brings nothing: where all is kept it stays, as a second end does.
abbrev pub kept_of : (ℕ → Share) → List Event → Event → List Said
kept_of share before (events.Piece c bytes) = piece_of c (part_kept (share c) (length (received c before).bytes) bytes.items)
kept_of share before (events.End c) = if keeps_end (share c) then TheEnd c ∷ [] else []
kept_of share before (events.Turn c) = if keeps_turns (share c) then ATurn c ∷ [] else []

-- and of those behind it
abbrev pub kept_after : (ℕ → Share) → List Event → List Event → List Said
kept_after share before [] = []
kept_after share before (e ∷ happened) = kept_of share before e ++ kept_after share (before ++ e ∷ []) happened

-- these events are what is kept of those
abbrev pub AreKept : (ℕ → Share) → List Event → List Event → Type 0
AreKept share happened kept = map said_of_event kept ≡ kept_after share [] happened

-- The trimmed events: all events of connections are dropped of which no message is sound, and of the others the bytes, and the end,
-- behind the byte at which the first message is refused; pieces without bytes are dropped, and all else is kept.
abbrev pub AreTrimmed : Settings → List (List ℕ) → List Event → List Event → Type 0
AreTrimmed settings moments happened trimmed = (share : ℕ → Share) × AreShares settings moments happened share × AreKept share happened trimmed

-- an event of a connection is among these
abbrev pub has_event : ℕ → List Event → Bool
has_event connection happened = list_any (λ e. connection_of_event e == connection) happened

-- ---- what is refused leaves no trace

-- Each first fault of a connection has a place from which on all may be dropped: the message that stands there is
-- refused with that code, and those in front of it are sound by their own bytes alone, and are as many as is counted.
abbrev pub FaultsHavePlaces : Type 0
FaultsHavePlaces =
    (settings : Settings) (moments : List ℕ) (input : Input) (number : ℕ) (code : Code)
    → FaultOf settings moments input number code
    → (place : ℕ)
    × (place ≤ length input.bytes)
    × (refused : IsRefusedAt settings moments input place)
    × (refused.1.code ≡ code)
    × (number ≡ min (length refused.1.messages) most_counted)

-- Where memory doesn't run out, what is kept of events has a run with the same entries, and with the same outputs of the connections
-- of which all is kept for which they wrote something. Dropped are connections of which no message is sound, and of others a message
-- that is refused, or what stands behind it.
abbrev pub KeptRuns : Type 0
KeptRuns =
    (settings : Settings) (moments : List (List ℕ)) (happened kept : List Event) (outs : List (List ℕ)) (entries : List Recorded) (share : ℕ → Share)
    (run : Runs settings moments happened outs entries)
    → IsWhole settings moments happened outs entries run → MayBeShares settings moments happened share → AreKept share happened kept
    → (outs' : List (List ℕ))
    × (run' : Runs settings moments kept outs' entries)
    × IsWhole settings moments kept outs' entries run'
    × ((c : ℕ) → c < length moments → KeepsOutput settings (moments_of c moments) (received c happened) (share c) → output_of c outs ≡ output_of c outs')

-- So each run of it in which memory doesn't run out has these entries and outputs: nothing that is refused makes an entry, or changes
-- what another connection writes.
abbrev pub RefusedLeavesNothing : Type 0
RefusedLeavesNothing =
    (settings : Settings) (moments : List (List ℕ)) (happened kept : List Event) (outs outs' : List (List ℕ)) (entries entries' : List Recorded) (share : ℕ → Share)
    (run : Runs settings moments happened outs entries) (run' : Runs settings moments kept outs' entries')
    → IsWhole settings moments happened outs entries run → IsWhole settings moments kept outs' entries' run'
    → MayBeShares settings moments happened share → AreKept share happened kept
    → (entries ≡ entries')
    × ((c : ℕ) → c < length moments → KeepsOutput settings (moments_of c moments) (received c happened) (share c) → output_of c outs ≡ output_of c outs')

-- Events have one list of trimmed events, but for where its bytes lie in memory.
abbrev pub OneTrim : Type 0
OneTrim =
    (settings : Settings) (moments : List (List ℕ)) (happened trimmed other : List Event)
    → AreTrimmed settings moments happened trimmed → AreTrimmed settings moments happened other → map said_of_event trimmed ≡ map said_of_event other

-- And two lists of events with the same trimmed events leave the same entries, and the same outputs of the connections of which an
-- event is left in these.
abbrev pub OneTrimOneRun : Type 0
OneTrimOneRun =
    (settings : Settings) (moments : List (List ℕ)) (happened other trimmed : List Event) (outs outs' : List (List ℕ)) (entries entries' : List Recorded)
    (run : Runs settings moments happened outs entries) (run' : Runs settings moments other outs' entries')
    → IsWhole settings moments happened outs entries run → IsWhole settings moments other outs' entries' run'
    → AreTrimmed settings moments happened trimmed → AreTrimmed settings moments other trimmed
    → (entries ≡ entries') × ((c : ℕ) → c < length moments → has_event c trimmed ≡ true → output_of c outs ≡ output_of c outs')
