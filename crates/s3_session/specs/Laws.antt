-- What a verdict on a connection's bytes says of them (RFC 9112, sections 2.1 and 6.2), and that the
-- bytes fix what is written.
use Rattle.std.specs.Prelude.{◌≡◌, ◌≢◌, ℕ, Bool, true, false, List, [], ◌++◌, codes, Some, Ok}
use mathlib.Core.List.{IsPrefix}
use Rattle.s3_config.specs.Settings.{Settings}
use Rattle.s3_http_heads.specs.Find.{found_in}
use Rattle.s3_http_heads.specs.declared.find.Found.TheVariants as found
use Rattle.s3_http_heads.specs.Head.{HeadParts, is_sent}
use Rattle.s3_http_heads.specs.BodyLength.{decoded_length, may_be_coded}
use Rattle.s3_http_heads.specs.Message.{HasLength, IsMessageBy}
use Rattle.s3_http_heads.specs.declared.body_length.BodyFraming.{BodyFraming}
use Rattle.s3_http_heads.specs.declared.body_length.BodyFraming.TheVariants.{Sized, Coded}
use Rattle.s3_aws_chunked.specs.Verdict.{Accepted}
use Rattle.s3_payloads.specs.FoundSum.{found_sum}
use Rattle.s3_framed_bodies.specs.Framed.{Ends}
use Rattle.s3_framed_bodies.specs.Verdict as framed
use Rattle.s3_machine.specs.declared.command.Command.{Command}
use Rattle.s3_requests.specs.Commands.{command_of}
use Rattle.s3_replies.specs.declared.context.Context.{Context}
use Rattle.s3_session.specs.Verdict.{Verdict}
use Rattle.s3_session.specs.Verdict as verdicts
use Rattle.s3_session.specs.Admission.{Asked, admission_of}
use Rattle.s3_session.specs.Decision.{Decision, Judges, context_of, open_yet, with_found}
use Rattle.s3_session.specs.Invitation.{Invites}
use Rattle.s3_session.specs.Output.{Past, Standing, Reading, Writes, is_dead}
use Rattle.s3_session.specs.Replay.{LiveReplays, Replays}
use Rattle.s3_session.specs.Walk.{Message, Walks}

-- settings, moment, bytes and whether they end leave at most one verdict, with one rest
abbrev pub OneVerdict : Type 0
OneVerdict =
    (settings : Settings) (moment : ℕ) (ended : Bool) (bytes : List ℕ) (d e : Decision)
    → Judges settings moment ended bytes d → Judges settings moment ended bytes e → d ≡ e

-- settings, moment, bytes and whether they end can't be without a verdict
abbrev pub VerdictsExist : Type 0
VerdictsExist =
    (settings : Settings) (moment : ℕ) (ended : Bool) (bytes : List ℕ)
    → ¬ ((d : Decision) → ¬ (Judges settings moment ended bytes d))

-- Verdicts are final: what was decided about a message stays decided, whatever bytes follow.

-- what comes after a message, where more bytes follow: only behind a sound message is there anything
abbrev pub rest_with : Verdict → List ℕ → List ℕ → List ℕ
rest_with verdicts.Open rest more = rest
rest_with (verdicts.Refused code head_only) rest more = rest
rest_with (verdicts.Sound context command) rest more = rest ++ more

-- a verdict that is reached on some bytes, whose end isn't known yet, is the verdict on those bytes
-- followed by anything, whether that is the end or not
abbrev pub VerdictsStay : Type 0
VerdictsStay =
    (settings : Settings) (moment : ℕ) (ended : Bool) (bytes more : List ℕ) (verdict : Verdict) (rest : List ℕ)
    → Judges settings moment false bytes (verdict, rest) → verdict ≢ verdicts.Open
    → Judges settings moment ended (bytes ++ more) (verdict, rest_with verdict rest more)

-- settings, moment and bytes leave one text that is written before the body of the message at their front is read
abbrev pub OneInvitation : Type 0
OneInvitation =
    (settings : Settings) (moment : ℕ) (bytes a b : List ℕ)
    → Invites settings moment bytes a → Invites settings moment bytes b → a ≡ b

-- it is the same where more bytes follow, once there is a head text or too many bytes without one
abbrev pub InvitationsStay : Type 0
InvitationsStay =
    (settings : Settings) (moment : ℕ) (bytes more text : List ℕ)
    → found_in bytes ≢ found.NeedMore
    → Invites settings moment bytes text → Invites settings moment (bytes ++ more) text

-- at the front of the bytes stands a whole message, and then the rest: its head asks for this, its body ends where its framing
-- says, and is accepted with this payload, the context is what the head says of the reply and the checksum that was found of
-- the payload, and the operation makes this command of both
pub record IsSound (settings : Settings) (moment : ℕ) (bytes : List ℕ) (context : Context) (command : Command) (rest : List ℕ) : Type 0 where
  pub head : HeadParts
  pub body : List ℕ
  pub asks : Asked
  pub payload : List ℕ
  pub message : IsMessageBy (Ends asks.announced.framing) bytes head body rest
  pub admitted : admission_of settings head moment ≡ Ok asks
  pub accepted : framed.Judges asks.announced body false (Accepted payload)
  pub replied : context ≡ with_found (found_sum asks.announced.form payload) (context_of settings.dialect head moment)
  pub asked : command_of asks.plan (found_sum asks.announced.form payload) payload ≡ Ok command

-- what a head tells of where this body ends, where a server takes so many bytes: no transfer coding is named, and it has as many
-- bytes as Content-Length announces; or the chunked coding alone is named, with the object's length
abbrev pub TellsEnd : HeadParts → ℕ → BodyFraming → List ℕ → Type 0
TellsEnd head limit (Sized size) body = (is_sent (codes "transfer-encoding") head ≡ false) × HasLength head body
TellsEnd head limit (Coded most decoded) body = (may_be_coded head ≡ true) × (decoded_length head ≡ Some decoded) × (most ≡ limit)

-- the body of a sound message ends where its head tells
abbrev pub EndsAreTold : Type 0
EndsAreTold =
    (settings : Settings) (moment : ℕ) (bytes rest : List ℕ) (context : Context) (command : Command)
    → (sound : IsSound settings moment bytes context command rest)
    → TellsEnd sound.head settings.body_limit sound.asks.announced.framing sound.body

-- a sound verdict is about a sound message at the front of the bytes
abbrev pub SoundMessages : Type 0
SoundMessages =
    (settings : Settings) (moment : ℕ) (ended : Bool) (bytes rest : List ℕ) (context : Context) (command : Command)
    → Judges settings moment ended bytes (verdicts.Sound context command, rest)
    → IsSound settings moment bytes context command rest

-- a sound message at the front of the bytes has the sound verdict, whether or not more bytes come
abbrev pub SoundIsJudged : Type 0
SoundIsJudged =
    (settings : Settings) (moment : ℕ) (ended : Bool) (bytes rest : List ℕ) (context : Context) (command : Command)
    → IsSound settings moment bytes context command rest
    → Judges settings moment ended bytes (verdicts.Sound context command, rest)

-- a sound message is sound by its own bytes alone, without the rest behind them, and the same is written before its
-- body is read
abbrev pub SoundAlone : Type 0
SoundAlone =
    (settings : Settings) (moment : ℕ) (ended : Bool) (bytes rest : List ℕ) (context : Context) (command : Command)
    → Judges settings moment ended bytes (verdicts.Sound context command, rest)
    → (whole : List ℕ)
    × (bytes ≡ whole ++ rest)
    × Judges settings moment false whole (verdicts.Sound context command, [])
    × ((text : List ℕ) → Invites settings moment bytes text → Invites settings moment whole text)

-- and sound messages that stand one behind another are so by their own bytes alone
abbrev pub SoundWalksAlone : Type 0
SoundWalksAlone =
    (settings : Settings) (ended : Bool) (bytes rest : List ℕ) (messages : List Message)
    → Walks settings ended bytes messages (Some rest)
    → (front : List ℕ) × (bytes ≡ front ++ rest) × Walks settings false front messages (Some [])

-- Two connections under the same settings, whose bytes are the same, of which both or neither have ended, whose messages had
-- the first moments of one list, to which the same answers were given, and in which memory did not run out, have written the
-- same, wait for the same turns, have messages of the same moments and stand alike: however their bytes were cut into pieces.
abbrev pub OneWriting : Type 0
OneWriting =
    (settings : Settings) (p q : Standing) (a b : Past) (moments x y : List ℕ)
    → is_dead p ≡ false → is_dead q ≡ false
    → a.bytes ≡ b.bytes → a.ended ≡ b.ended → IsPrefix a.moments moments → IsPrefix b.moments moments → a.answers ≡ b.answers
    → Writes p settings a x → Writes q settings b y
    → (x ≡ y) × (a.turns ≡ b.turns) × (a.moments ≡ b.moments) × (p ≡ q)

-- where a command waits or nothing more is read, the bytes that follow, and their end, change nothing
abbrev pub OutputsStay : Type 0
OutputsStay =
    (settings : Settings) (standing : Standing) (past : Past) (out more : List ℕ) (ended : Bool)
    → standing ≢ Reading → past.ended ≡ false → Writes standing settings past out
    → Writes standing settings (record past { bytes = past.bytes ++ more; ended = ended }) out

-- once no more bytes come, something is decided about a message where there is a head text or too many bytes without one
abbrev pub HeadsAreDecided : Type 0
HeadsAreDecided =
    (settings : Settings) (moment : ℕ) (bytes : List ℕ)
    → found_in bytes ≢ found.NeedMore → ¬ (Judges settings moment true bytes open_yet)

-- and where there is neither, nothing is written
abbrev pub HeadlessAreSilent : Type 0
HeadlessAreSilent =
    (settings : Settings) (moment : ℕ) (bytes : List ℕ)
    → found_in bytes ≡ found.NeedMore → Replays settings moment bytes []

-- two replays of the same bytes under the same settings at the same moment, in which memory does not
-- run out, write the same
abbrev pub OneOutput : Type 0
OneOutput =
    (settings : Settings) (moment : ℕ) (bytes a b : List ℕ)
    → LiveReplays settings moment bytes a → LiveReplays settings moment bytes b → a ≡ b
