-- One connection on trial, whose commands are answered at once: whether a message of it is sound, at which byte its first message is
-- refused, and so how much of its events is kept. And what is kept of events, one after another. It serves clauses of private
-- functions alone, so nobody has to believe it.
use Rattle.std.specs.Prelude.{◌≡◌, ◌≤◌, ◌<◌, ℕ, ◌+◌, ◌-◌, ⊤, Bool, true, false, List, [], ◌++◌, length, take, min, slice_index_or, ◌∷◌, Option, Some, None}
use Rattle.s3_config.specs.Settings.{Settings}
use Rattle.s3_terms.specs.declared.code.Code.{Code}
use Rattle.s3_machine.specs.declared.command.Answer.{Answer}
use Rattle.s3_machine.specs.declared.turn.Turn.{Turn}
use Rattle.s3_session.specs.Output.{Past, Standing, is_dead, is_waiting}
use Rattle.s3_session.specs.Output as standings
use Rattle.s3_session.specs.Session.{Connection, standing_of}
use Rattle.s3_session.specs.Stands.{Stands}
use Rattle.s3_session.specs.declared.session.Need.{Need}
use Rattle.s3_session.specs.declared.session.Need.TheVariants as needs
use Rattle.s3_events.specs.Lines.{Said}
use Rattle.s3_events.specs.Script.{said_of_event}
use Rattle.s3_events.specs.declared.event.Event.{Event}
use Rattle.s3_events.specs.declared.event.Event.TheVariants as events
use Rattle.s3_connection.specs.Output.{Input}
use Rattle.s3_simulation.specs.Events.{received}
use Rattle.s3_simulation.specs.Faults.{FaultOf, HasNoFaultOf}
use Rattle.s3_simulation.specs.Moments.{HasHanded, handed}
use Rattle.s3_simulation.specs.Run.{moments_of}
use Rattle.s3_simulation.specs.Trimmed.{HasSound, IsRefusedWithin, IsShare, Share, keeps_end, keeps_turns, part_kept, piece_of}
use Rattle.s3_simulation.specs.Trimmed as shares
use Rattle.s3_simulation.specs.declared.share.Kept.{Kept}
use Rattle.s3_simulation.specs.declared.share.Kept.TheVariants as kepts
use Rattle.s3_simulation.specs.declared.trial.Passed.{Passed}
use Rattle.s3_simulation.specs.declared.trial.Passed.TheVariants as passed
use Rattle.s3_simulation.specs.declared.trial.Step.{Step}
use Rattle.s3_simulation.specs.declared.trial.Step.TheVariants as steps

-- ---- how much is kept

-- the share that a value says
abbrev pub share_of : Kept → Share
share_of kepts.Nothing = shares.Nothing
share_of kepts.All = shares.All
share_of (kepts.UpTo place) = shares.UpTo place

-- where one of its messages is sound: all, or all up to a place
abbrev pub all_if : Bool → Share
all_if true = shares.All
all_if false = shares.Nothing

abbrev pub up_to_if : Bool → ℕ → Share
up_to_if true place = shares.UpTo place
up_to_if false place = shares.Nothing

-- ---- a connection on trial

-- its session, what hands out the moments that its messages have still to get, whether one of its messages was sound, and how many of
-- its bytes were taken
pub record Trying : Type 0 where
  pub session : Connection
  pub moments : List ℕ
  pub is_sound : Bool
  pub taken : ℕ

-- these bytes, of which no end is known
abbrev pub unended : List ℕ → Input
unended bytes = record { bytes = bytes; ended = false }

-- it reads on
abbrev pub ReadsOn : Trying → Type 0
ReadsOn t = (standing_of t.session ≡ standings.Reading) × (t.session.is_ended ≡ false)

-- what went through its session
abbrev pub past_with : List ℕ → List ℕ → List Turn → List Answer → Past
past_with bytes moments turns answers = record { bytes = bytes; ended = false; moments = moments; turns = turns; answers = answers }

-- a message of it was sound, or no command waited
abbrev pub Knows : Bool → Settings → List ℕ → List ℕ → List Turn → List Answer → Type 0
Knows true settings moments bytes turns answers = HasSound settings moments (unended bytes)
Knows false settings moments bytes turns answers = (turns ≡ []) × (answers ≡ [])

-- it took these bytes, its messages had the first moments of the list, and its commands were answered in some way
pub record HasTried (t : Trying) (settings : Settings) (moments bytes : List ℕ) : Type 0 where
  pub count : ℕ
  pub hands : HasHanded moments count t.moments
  pub turns : List Turn
  pub answers : List Answer
  pub sent : List ℕ
  pub stands : Stands t.session settings (past_with bytes (handed moments count) turns answers) sent
  pub knows : Knows t.is_sound settings moments bytes turns answers

-- the same, none of its messages is refused within them, and they are counted
pub record Tries (t : Trying) (settings : Settings) (moments bytes : List ℕ) : Type 0 where
  pub tried : HasTried t settings moments bytes
  pub clean : HasNoFaultOf settings moments (unended bytes)
  pub counted : t.taken ≡ length bytes

-- a message is refused within these bytes
abbrev pub IsRefusedIn : Settings → List ℕ → List ℕ → Type 0
IsRefusedIn settings moments bytes = (number : ℕ) × (code : Code) × FaultOf settings moments (unended bytes) number code

-- this tells whether a message of it was refused
pub record TellsRefused (t : Trying) (refused : Bool) : Type 0 where
  pub some : (settings : Settings) (moments bytes : List ℕ) → HasTried t settings moments bytes → refused ≡ true → IsRefusedIn settings moments bytes
  pub over : refused ≡ true → standing_of t.session ≡ standings.Over
  pub none : (settings : Settings) (moments bytes : List ℕ) → HasTried t settings moments bytes
      → is_dead (standing_of t.session) ≡ false → is_waiting (standing_of t.session) ≡ false → refused ≡ false
      → HasNoFaultOf settings moments (unended bytes)
  pub closed : (settings : Settings) (moments bytes more : List ℕ) → HasTried t settings moments bytes → standing_of t.session ≡ standings.Over → refused ≡ false
      → HasNoFaultOf settings moments (unended (bytes ++ more))

-- so many more bytes are counted
abbrev pub added_up : Trying → ℕ → Trying
added_up t len = record { session = t.session; moments = t.moments; is_sound = t.is_sound; taken = t.taken + len }

-- and none within fewer of them
abbrev pub HasNoneBefore : Settings → List ℕ → List ℕ → Type 0
HasNoneBefore settings moments bytes = (n : ℕ) → n < length bytes → ¬ (IsRefusedWithin settings moments (unended bytes) n)

-- this is its share, whatever comes behind these bytes
abbrev pub Settles : Settings → List ℕ → List ℕ → Share → Type 0
Settles settings moments bytes share =
    (more : List ℕ) (ended : Bool) → IsShare settings moments (record { bytes = bytes ++ more; ended = ended }) share

-- the session asks for a turn
abbrev pub asks : Need → Bool
asks needs.More = false
asks (needs.Turn turn) = true
asks needs.Close = false

-- how its session stands behind a piece, its command answered
abbrev pub IsPassed : Passed → Standing → Type 0
IsPassed passed.All standing = standing ≡ standings.Reading
IsPassed passed.Answered standing = standing ≡ standings.Reading
IsPassed passed.Replied standing = standing ≡ standings.Over
IsPassed passed.Stopped standing = ⊤

-- a step of so many bytes, by what they led to, whether a message was refused, and what is kept then
abbrev pub IsStepOf : Step → Passed → ℕ → Bool → Kept → Type 0
IsStepOf step passed.All len refused kept = step ≡ steps.More
IsStepOf step passed.Answered len refused kept = step ≡ steps.Behind len
IsStepOf step passed.Replied len refused kept = (refused ≡ false) × (step ≡ steps.Settled kepts.All)
IsStepOf step passed.Stopped len refused kept = (refused ≡ true) × (step ≡ steps.Settled kept)

-- what a step made of it, behind these bytes, with a piece
abbrev pub HasStepped : Step → Trying → Settings → List ℕ → List ℕ → List ℕ → Type 0
HasStepped steps.More t settings moments bytes piece = Tries t settings moments (bytes ++ piece)
HasStepped (steps.Behind len) t settings moments bytes piece = Tries t settings moments (bytes ++ take len piece)
HasStepped (steps.Settled kept) t settings moments bytes piece = Settles settings moments (bytes ++ piece) (share_of kept)

-- and whether it reads on
abbrev pub StepsOn : Step → Trying → ℕ → Type 0
StepsOn steps.More t size = ReadsOn t
StepsOn (steps.Behind len) t size = ReadsOn t × (len ≤ size)
StepsOn (steps.Settled kept) t size = ⊤

-- it took these bytes, or its share is settled
abbrev pub HasTaken : Option Kept → Trying → Settings → List ℕ → List ℕ → Type 0
HasTaken None t settings moments bytes = Tries t settings moments bytes
HasTaken (Some kept) t settings moments bytes = Settles settings moments bytes (share_of kept)

-- ---- the shares of several connections

-- the share of a connection; one that isn't there has none
abbrev pub share_at : List Kept → ℕ → Share
share_at kept c = share_of (slice_index_or kept c kepts.Nothing)

-- the shares of the first connections, so many
pub record AreFirstShares (settings : Settings) (moments : List (List ℕ)) (happened : List Event) (kept : List Kept) (made : ℕ) : Type 0 where
  pub count : length kept ≡ made
  pub there : (c : ℕ) → c < made → IsShare settings (moments_of c moments) (received c happened) (share_at kept c)

-- a share ends within what is received
abbrev pub EndsWithin : Share → Input → Type 0
EndsWithin shares.Nothing input = ⊤
EndsWithin shares.All input = ⊤
EndsWithin (shares.UpTo place) input = place ≤ length input.bytes

-- ---- what is kept of events, one after another

-- what a share leaves to be kept behind so many bytes
abbrev pub left_of : Share → ℕ → Share
left_of shares.Nothing received = shares.Nothing
left_of shares.All received = shares.All
left_of (shares.UpTo place) received = shares.UpTo (place - received)

-- how many of so many bytes it keeps
abbrev pub count_kept : Share → ℕ → ℕ
count_kept shares.Nothing size = 0
count_kept shares.All size = size
count_kept (shares.UpTo place) size = min place size

-- so many bytes come with an event
abbrev pub size_of : Event → ℕ
size_of (events.Piece c bytes) = length bytes.items
size_of _ = 0

-- what an event says, if it is kept
abbrev pub said_if : Bool → Event → List Said
said_if true e = said_of_event e ∷ []
said_if false e = []

-- what is kept of an event of a connection that has this share left
abbrev pub kept_now : Share → Event → List Said
kept_now share (events.Piece c bytes) = piece_of c (part_kept share 0 bytes.items)
kept_now share (events.End c) = said_if (keeps_end share) (events.End c)
kept_now share (events.Turn c) = said_if (keeps_turns share) (events.Turn c)

-- it heard of these events, none of which ended its connection, or its share is settled, whatever happens behind them
abbrev pub HasHeard : Option Kept → Trying → Settings → List ℕ → ℕ → List Event → Type 0
HasHeard None t settings moments c happened = ((received c happened).ended ≡ false) × Tries t settings moments (received c happened).bytes
HasHeard (Some kept) t settings moments c happened = (later : List Event) → IsShare settings moments (received c (happened ++ later)) (share_of kept)
