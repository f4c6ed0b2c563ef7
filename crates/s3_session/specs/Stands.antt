-- How a connection stands after all that went through it.
-- `Stands` is what the clauses of the session carry along. What it comes to is a law, `sessions_write`: the output of the
-- connection. So its inside need not be believed. A reader believes the law at the end; the others serve `Stands` and the
-- clauses of private functions alone.
use Rattle.std.specs.Prelude.{◌≡◌, ◌≢◌, ◌<◌, ◌⊎◌, ℕ, min, take, Bool, true, false, List, [], ◌∷◌, ◌++◌, length, Option, Some, None}
use Rattle.s3_config.specs.Settings.{Settings}
use Rattle.s3_terms.specs.declared.code.Code.{Code}
use Rattle.s3_http_heads.specs.Find.{found_in, skip_pairs}
use Rattle.s3_http_heads.specs.declared.find.Found.TheVariants as found
use Rattle.s3_http_heads.specs.Head.{HasNoHead}
use Rattle.s3_http_heads.specs.Search as search
use Rattle.s3_machine.specs.declared.command.Command.{Command}
use Rattle.s3_machine.specs.declared.turn.Turn.{Turn}
use Rattle.s3_outbox.specs.Outbox.{Sending, with_room}
use Rattle.s3_replies.specs.declared.context.Context.{Context}
use Rattle.s3_replies.specs.Replies.{PrintsRefusal, internal_error}
use Rattle.s3_session.specs.Verdict as verdicts
use Rattle.s3_session.specs.Decision.{Judges, with_found}
use Rattle.s3_session.specs.Fault.{most_counted}
use Rattle.s3_session.specs.Invitation.{Invites}
use Rattle.s3_session.specs.Incoming.{IsInBody}
use Rattle.s3_session.specs.Output.{HasText, Past, Serves, Writes, IsOpen, IsRefused, IsDead, is_dead}
use Rattle.s3_session.specs.Session.{Connection, added, moment_at, refused_at, standing_of, turns_of, unsent_of}
use Rattle.s3_session.specs.Verified.{IsNoted}
use Rattle.s3_session.specs.declared.incoming.Incoming.{Incoming}
use Rattle.s3_session.specs.declared.incoming.Progress.{Progress}
use Rattle.s3_session.specs.declared.incoming.Progress.TheVariants as progress
use Rattle.s3_session.specs.declared.session.Stage.{Stage}
use Rattle.s3_session.specs.declared.session.Stage.TheVariants as stages
use Rattle.s3_session.specs.declared.session.Closing.TheVariants as closings
use Rattle.s3_session.specs.declared.session.Need.{Need}
use Rattle.s3_session.specs.declared.session.Need.TheVariants as needs

-- the head of a message was admitted, and its body is still open
abbrev pub is_in_body : Stage → Bool
is_in_body stages.Reading = false
is_in_body (stages.Body incoming) = true
is_in_body (stages.Waiting context) = false
is_in_body (stages.Closed closing) = false

-- no head has come behind the answered messages
pub record IsReading (session : Connection) (ended : Bool) (rest : List ℕ) (waiting : List Turn) (last : List ℕ) : Type 0 where
  pub searched : ended ≡ false → search.Stands session.search rest
  pub found : found_in rest ≡ found.NeedMore
  pub none : waiting ≡ []
  pub nothing : last ≡ []

-- a head has come and was admitted
pub record IsReceiving (settings : Settings) (session : Connection) (incoming : Incoming) (ended : Bool) (rest : List ℕ) (waiting : List Turn) (last : List ℕ) : Type 0 where
  pub goes_on : ended ≡ false
  pub body : IsInBody settings incoming rest
  pub invites : Invites settings incoming.context.moment rest last
  pub none : waiting ≡ []

-- a whole message has come, and its command waits
pub record IsAsking (settings : Settings) (session : Connection) (context : Context) (ended : Bool) (rest : List ℕ) (waiting : List Turn) (last : List ℕ) : Type 0 where
  pub command : Command
  pub one : waiting ≡ record { command = command; moment = context.moment } ∷ []
  pub judged : Judges settings context.moment ended rest (verdicts.Sound context command, [])
  pub invites : Invites settings context.moment rest last

-- a message was refused with this code
abbrev pub IsRefusedWith : Code → Settings → Bool → List ℕ → List ℕ → List Turn → List ℕ → Type 0
IsRefusedWith code settings ended rest late waiting last = (refused : IsRefused settings ended rest late waiting last) × (refused.code ≡ code)

abbrev pub StandsAt : Stage → Settings → Connection → Bool → List ℕ → List Turn → List ℕ → Type 0
StandsAt stages.Reading settings session ended rest waiting last = IsReading session ended rest waiting last
StandsAt (stages.Body incoming) settings session ended rest waiting last = IsReceiving settings session incoming ended rest waiting last
StandsAt (stages.Waiting context) settings session ended rest waiting last = IsAsking settings session context ended rest waiting last
StandsAt (stages.Closed closings.Replied) settings session ended rest waiting last = ⊥
StandsAt (stages.Closed (closings.Refused moment code)) settings session ended rest waiting last = IsRefusedWith code settings ended rest (moment ∷ []) waiting last
StandsAt (stages.Closed (closings.Died moment)) settings session ended rest waiting last = IsDead settings ended rest (moment ∷ []) waiting last

-- a session stands so before these bytes, with the turn that waits and the text that is written for them
abbrev pub Here : Settings → Connection → Bool → List ℕ → List Turn → List ℕ → Type 0
Here settings session ended rest waiting last = StandsAt session.stage settings session ended rest waiting last

abbrev pub HereOr : Settings → Connection → Bool → Option (List ℕ) → List Turn → List ℕ → Type 0
HereOr settings session ended (Some rest) waiting last = Here settings session ended rest waiting last
HereOr settings session ended None waiting last = (session.stage ≡ stages.Closed closings.Replied) × (waiting ≡ []) × (last ≡ [])

-- A session holds the head at the front of these bytes: its search has taken them up to the byte with which the head was whole, or
-- too large. The text of a whole head isn't lost, unless memory ran out for its message. A text that isn't lost is no malformed one,
-- unless its message is refused: so memory runs out for none that is malformed.
pub record HoldsHead (session : Connection) (rest : List ℕ) : Type 0 where
  pub front : List ℕ
  pub behind : List ℕ
  pub joined : rest ≡ front ++ behind
  pub held : search.Holds session.search front
  pub decided : found_in front ≢ found.NeedMore
  pub whole : HasText front → is_dead (standing_of session) ≡ false → search.is_lost session.search ≡ false
  pub says : refused_at session.stage ≡ None → search.is_lost session.search ≡ false → ¬ (HasNoHead (skip_pairs front))

-- After all this, and with these bytes sent. The head of the message at hand is held as long as that has its moment, also where it
-- is refused.
pub record Stands (session : Connection) (settings : Settings) (past : Past) (sent : List ℕ) : Type 0 where
  pub left : Option (List ℕ)
  pub waiting : List Turn
  pub last : List ℕ
  pub serves : Serves settings past (sent ++ unsent_of session) left (moment_at session.stage) waiting last
  pub here : HereOr settings session past.ended left waiting last
  pub end : past.ended ≡ session.is_ended
  pub counted : session.answered ≡ min (length past.answers) most_counted
  pub noted : IsNoted settings session
  pub head : (rest : List ℕ) → left ≡ Some rest → moment_at session.stage ≢ [] → HoldsHead session rest

-- with fewer than so many bytes of a piece behind these nothing is decided yet
abbrev pub IsUndecided : Settings → List ℕ → List ℕ → List ℕ → ℕ → Type 0
IsUndecided settings moments rest piece taken =
    (n : ℕ) → n < taken → (k : ℕ) × (text : List ℕ) × IsOpen settings false (rest ++ take n piece) (take k moments) [] text

-- what a piece made of a session, by the bytes that it left unanswered before and the text that was written for them:
-- these bytes with those that were taken, and the text with what was added; and that no fewer would do
pub record IsFed (settings : Settings) (old new : Connection) (rest last piece : List ℕ) (taken : ℕ) (need : Need) : Type 0 where
  pub here : Here settings new false (rest ++ take taken piece) (turns_of need) (last ++ added (unsent_of old) (unsent_of new))
  pub all : need ≡ needs.More → taken ≡ length piece
  pub at_once : is_dead (standing_of new) ≡ false → IsUndecided settings (moment_at new.stage) rest piece taken

-- memory ran out for a message of this moment
abbrev pub IsDying : ℕ → Connection → Connection → Need → Type 0
IsDying moment old new need =
    (need ≡ needs.Close)
    × (new.stage ≡ stages.Closed (closings.Died moment))
    × (unsent_of new ≡ unsent_of old ++ internal_error)

-- there is no room for a reply, nor any that can be used again
abbrev pub LacksRoom : Sending → Type 0
LacksRoom outbox = (outbox.has_room ≡ false) × (outbox.had_room ≡ true → 0 < length outbox.unsent)

-- a command waits from now on, or memory ran out for its reply
abbrev pub Asks : Context → Command → Connection → Connection → Need → Type 0
Asks context command old new need =
    ((need ≡ needs.Turn (record { command = command; moment = context.moment }))
    × (new.stage ≡ stages.Waiting context)
    × (new.outbox ≡ with_room old.outbox))
    ⊎ (IsDying context.moment old new need × LacksRoom old.outbox)

-- what becomes of a session with what became of a message
abbrev pub GoesOn : Context → Progress → Connection → Connection → Need → Type 0
GoesOn context (progress.Open incoming) old new need =
    (need ≡ needs.More) × (new.stage ≡ stages.Body incoming) × (new.outbox ≡ old.outbox)
GoesOn context (progress.Whole command sum) old new need = Asks (with_found sum context) command old new need
GoesOn context (progress.Refused code) old new need =
    (need ≡ needs.Close)
    × (new.stage ≡ stages.Closed (closings.Refused context.moment code))
    × PrintsRefusal context.dialect code context.moment context.head_only (added (unsent_of old) (unsent_of new))
GoesOn context progress.Died old new need = IsDying context.moment old new need

-- after a reply: ready for the next message, or closed
abbrev pub IsReady : Bool → Connection → Type 0
IsReady true new = new.stage ≡ stages.Closed closings.Replied
IsReady false new = (new.stage ≡ stages.Reading) × search.Stands new.search []

-- the message was refused where its bytes ended
pub record IsCutTo (settings : Settings) (context : Context) (rest : List ℕ) (old new : Connection) : Type 0 where
  pub code : Code
  pub judged : Judges settings context.moment true rest (verdicts.Refused code context.head_only, [])
  pub stage : new.stage ≡ stages.Closed (closings.Refused context.moment code)
  pub printed : PrintsRefusal settings.dialect code context.moment context.head_only (added (unsent_of old) (unsent_of new))

-- a session that stands after all this has written the output of the connection, sent or not
abbrev pub SessionsWrite : Type 0
SessionsWrite =
    (session : Connection) (settings : Settings) (past : Past) (sent : List ℕ)
    → Stands session settings past sent → Writes (standing_of session) settings past (sent ++ unsent_of session)
