-- What a connection writes: a reply to each message, and what stands behind the last one.
use Rattle.std.specs.Prelude.{◌≡◌, ℕ, ◌⊎◌, Bool, true, false, List, [], ◌∷◌, ◌++◌, map, Option, Some, None}
use Rattle.std.specs.List.{AllByRecursion, flat_map}
use Rattle.s3_config.specs.Settings.{Settings}
use Rattle.s3_terms.specs.declared.code.Code.{Code}
use Rattle.s3_http_heads.specs.Find.{found_in}
use Rattle.s3_http_heads.specs.declared.find.Found.{Found}
use Rattle.s3_http_heads.specs.declared.find.Found.TheVariants as found
use Rattle.s3_machine.specs.declared.command.Answer.{Answer}
use Rattle.s3_machine.specs.declared.command.Command.{Command}
use Rattle.s3_replies.specs.declared.context.Context.{Context}
use Rattle.s3_replies.specs.Replies.{Prints, PrintsRefusal, internal_error}
use Rattle.s3_session.specs.Verdict as verdicts
use Rattle.s3_machine.specs.declared.turn.Turn.{Turn}
use Rattle.s3_session.specs.Decision.{AwaitsBody, Judges, open_yet, refused_message}
use Rattle.s3_session.specs.Invitation.{Invites}
use Rattle.s3_session.specs.Walk.{Message, Walks}

-- a message that was answered: what its reply takes from it, what it asked for, what was written before its body was
-- read, the answer, and the bytes of the reply
pub record Exchange : Type 0 where
  pub context : Context
  pub command : Command
  pub invitation : List ℕ
  pub answer : Answer
  pub reply : List ℕ

-- its message
abbrev pub message_of : Exchange → Message
message_of x = record { context = x.context; command = x.command; invitation = x.invitation }

-- the turn that its command waited for, at the moment of the message
abbrev pub turn_of : Exchange → Turn
turn_of x = record { command = x.command; moment = x.context.moment }

-- all that was written for it
abbrev pub written_for : Exchange → List ℕ
written_for x = x.invitation ++ x.reply

-- the reply is the printed answer
abbrev pub IsReplied : Exchange → Type 0
IsReplied x = Prints x.answer x.context x.reply

-- what went through a connection: its bytes, and whether they have ended; the moments of its messages; the turns
-- that its commands waited for; and the answers to them
pub record Past : Type 0 where
  pub bytes : List ℕ
  pub ended : Bool
  pub moments : List ℕ
  pub turns : List Turn
  pub answers : List Answer

-- nothing so far
abbrev pub nothing_yet : Past
nothing_yet = record { bytes = []; ended = false; moments = []; turns = []; answers = [] }

-- The sound messages at the front of the bytes were answered one after another, and this was written for them. Behind
-- them are some bytes or none that are read, the moment of the message in these, a turn that waits, and this text.
pub record Serves (settings : Settings) (past : Past) (out : List ℕ) (left : Option (List ℕ)) (late : List ℕ) (waiting : List Turn) (last : List ℕ) : Type 0 where
  pub exchanges : List Exchange
  pub walk : Walks settings past.ended past.bytes (map message_of exchanges) left
  pub replied : AllByRecursion IsReplied exchanges
  pub moments : past.moments ≡ map (λ (x : Exchange). x.context.moment) exchanges ++ late
  pub turns : past.turns ≡ map turn_of exchanges ++ waiting
  pub answers : past.answers ≡ map (λ (x : Exchange). x.answer) exchanges
  pub joined : out ≡ flat_map written_for exchanges ++ last

-- how a connection stands behind the messages that it has answered: nothing is decided about the next one; that is sound
-- and waits for its turn; no more is read, as a reply closed the connection or a message was refused; memory ran out
pub data Standing : Type 0 where
  Reading : Standing
  Waiting : Standing
  Over : Standing
  Dead : Standing

-- a turn waits
abbrev pub is_waiting : Standing → Bool
is_waiting Reading = false
is_waiting Waiting = true
is_waiting Over = false
is_waiting Dead = false

-- memory ran out
abbrev pub is_dead : Standing → Bool
is_dead Reading = false
is_dead Waiting = false
is_dead Over = false
is_dead Dead = true

-- no more is read
abbrev pub is_closed : Standing → Bool
is_closed Reading = false
is_closed Waiting = false
is_closed Over = true
is_closed Dead = true

-- a message has its moment once its whole head has come, or more than a head may have
abbrev pub moment_once_found : Found → ℕ → List ℕ
moment_once_found found.NeedMore moment = []
moment_once_found found.TooLarge moment = moment ∷ []
moment_once_found (found.Head n) moment = moment ∷ []

-- the next message is still open
pub record IsOpen (settings : Settings) (ended : Bool) (rest late : List ℕ) (waiting : List Turn) (last : List ℕ) : Type 0 where
  pub moment : ℕ
  pub asked : late ≡ moment_once_found (found_in rest) moment
  pub none : waiting ≡ []
  pub judged : Judges settings moment ended rest open_yet
  pub invites : Invites settings moment rest last

-- it is sound, and its turn waits
pub record IsWaiting (settings : Settings) (ended : Bool) (rest late : List ℕ) (waiting : List Turn) (last : List ℕ) : Type 0 where
  pub context : Context
  pub command : Command
  pub after : List ℕ
  pub asked : late ≡ context.moment ∷ []
  pub one : waiting ≡ record { command = command; moment = context.moment } ∷ []
  pub judged : Judges settings context.moment ended rest (verdicts.Sound context command, after)
  pub invites : Invites settings context.moment rest last

-- it is refused, and this is written
pub record IsRefused (settings : Settings) (ended : Bool) (rest late : List ℕ) (waiting : List Turn) (last : List ℕ) : Type 0 where
  pub moment : ℕ
  pub code : Code
  pub head_only : Bool
  pub before : List ℕ
  pub text : List ℕ
  pub asked : late ≡ moment ∷ []
  pub none : waiting ≡ []
  pub judged : Judges settings moment ended rest (refused_message code head_only)
  pub invites : Invites settings moment rest before
  pub printed : PrintsRefusal settings.dialect code moment head_only text
  pub joined : last ≡ before ++ text

-- a whole head text stands at the front of the bytes
pub record HasText (bytes : List ℕ) : Type 0 where
  pub size : ℕ
  pub found : found_in bytes ≡ found.Head size

-- memory ran out for it, at its whole head, in its body or at its turn: the fixed reply is written
pub record IsDead (settings : Settings) (ended : Bool) (rest late : List ℕ) (waiting : List Turn) (last : List ℕ) : Type 0 where
  pub moment : ℕ
  pub before : List ℕ
  pub asked : late ≡ moment ∷ []
  pub turn : (waiting ≡ []) ⊎ IsWaiting settings ended rest late waiting before
  pub whole : HasText rest
  pub invites : (before ≡ []) ⊎ Invites settings moment rest before
  pub joined : last ≡ before ++ internal_error

-- where a reply closed the connection, nothing stands behind it
abbrev pub IsClosed : List ℕ → List Turn → List ℕ → Type 0
IsClosed late waiting last = (late ≡ []) × (waiting ≡ []) × (last ≡ [])

-- what stands behind the answered messages, by how the connection stands
abbrev pub Behind : Standing → Settings → Bool → Option (List ℕ) → List ℕ → List Turn → List ℕ → Type 0
Behind Reading settings ended (Some rest) late waiting last = IsOpen settings ended rest late waiting last
Behind Waiting settings ended (Some rest) late waiting last = IsWaiting settings ended rest late waiting last
Behind Over settings ended (Some rest) late waiting last = IsRefused settings ended rest late waiting last
Behind Dead settings ended (Some rest) late waiting last = IsDead settings ended rest late waiting last
Behind Over settings ended None late waiting last = IsClosed late waiting last
Behind Reading settings ended None late waiting last = ⊥
Behind Waiting settings ended None late waiting last = ⊥
Behind Dead settings ended None late waiting last = ⊥

-- The output of a connection, by all that went through it: for each sound message at the front of its bytes what is
-- written before its body is read, and the printed answer to its command; and then what stands behind them.
pub record Writes (standing : Standing) (settings : Settings) (past : Past) (out : List ℕ) : Type 0 where
  pub left : Option (List ℕ)
  pub late : List ℕ
  pub waiting : List Turn
  pub last : List ℕ
  pub serves : Serves settings past out left late waiting last
  pub behind : Behind standing settings past.ended left late waiting last

-- It reads the body of the next message: the head of that was admitted, and of its body nothing is decided yet.
pub record ReadsBody (settings : Settings) (past : Past) : Type 0 where
  pub out : List ℕ
  pub writes : Writes Reading settings past out
  pub moment : ℕ
  pub late : writes.late ≡ moment ∷ []
  pub rest : List ℕ
  pub left : writes.left ≡ Some rest
  pub awaits : AwaitsBody settings moment past.ended rest
