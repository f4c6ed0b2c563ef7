-- A connection as those see it who hold it: how it stands behind the messages that it has answered, what is unsent, and what
-- its calls bring. How it stands inside, after all that went through it, is another file's (`Stands`).
use Rattle.std.specs.Prelude.{◌≡◌, ◌≢◌, ◌⊎◌, ◌<◌, ℕ, take, Bool, true, false, List, [], ◌∷◌, ◌++◌, drop, length, Option, Some, None, Result, Ok, Err}
use Rattle.s3_config.specs.Settings.{Settings}
use Rattle.s3_terms.specs.declared.code.Code.{Code}
use Rattle.s3_terms.specs.declared.memory.NoMemory.{NoMemory}
use Rattle.s3_http_heads.specs.declared.search.HeadSearch.{HeadSearch}
use Rattle.s3_machine.specs.declared.command.Answer.{Answer}
use Rattle.s3_machine.specs.declared.turn.Turn.{Turn}
use Rattle.s3_outbox.specs.Outbox.{Sending}
use Rattle.s3_session.specs.Output.{Past, Standing, Writes}
use Rattle.s3_session.specs.Output as standings
use Rattle.s3_session.specs.declared.session.Stage.{Stage}
use Rattle.s3_session.specs.declared.session.Stage.TheVariants as stages
use Rattle.s3_session.specs.declared.session.Closing.TheVariants as closings
use Rattle.s3_session.specs.declared.session.Need.{Need}
use Rattle.s3_session.specs.declared.session.Need.TheVariants as needs
use Rattle.s3_session.specs.declared.session.Next.{Next}
use Rattle.s3_session.specs.declared.session.Next.TheVariants as nexts

-- a connection: the search for its next head, where it stands, what it has still to send, whether its bytes have ended, how many
-- of its messages were answered, and whether the head of the message at hand is noted as verified
pub record Connection : Type 0 where
  pub search : HeadSearch
  pub stage : Stage
  pub outbox : Sending
  pub is_ended : Bool
  pub answered : ℕ
  pub is_verified : Bool

-- where more may be written, the last text isn't in, and for a command that waits there is room for its reply
abbrev pub IsFit : Stage → Sending → Type 0
IsFit stages.Reading outbox = outbox.is_ended ≡ false
IsFit (stages.Body incoming) outbox = outbox.is_ended ≡ false
IsFit (stages.Waiting context) outbox = (outbox.is_ended ≡ false) × (outbox.has_room ≡ true)
IsFit (stages.Closed closing) outbox = Unit {0}

-- how it stands behind the messages that it has answered
abbrev pub standing_at : Stage → Standing
standing_at stages.Reading = standings.Reading
standing_at (stages.Body incoming) = standings.Reading
standing_at (stages.Waiting context) = standings.Waiting
standing_at (stages.Closed closings.Replied) = standings.Over
standing_at (stages.Closed (closings.Refused moment code)) = standings.Over
standing_at (stages.Closed (closings.Died moment)) = standings.Dead

abbrev pub standing_of : Connection → Standing
standing_of session = standing_at session.stage

-- what it wrote and has not sent
abbrev pub unsent_of : Connection → List ℕ
unsent_of session = session.outbox.unsent

-- the moment of the message behind those that it has answered, where it has one
abbrev pub moment_at : Stage → List ℕ
moment_at stages.Reading = []
moment_at (stages.Body incoming) = incoming.context.moment ∷ []
moment_at (stages.Waiting context) = context.moment ∷ []
moment_at (stages.Closed closings.Replied) = []
moment_at (stages.Closed (closings.Refused moment code)) = moment ∷ []
moment_at (stages.Closed (closings.Died moment)) = moment ∷ []

-- the code of the message that was refused, if one was
abbrev pub refused_at : Stage → Option Code
refused_at (stages.Closed (closings.Refused moment code)) = Some code
refused_at _ = None

-- These bytes and this end are behind all that went through it, and it hears of them no more: there are none, or a command waits or no
-- more is read.
abbrev pub IsUnheard : Standing → Past → List ℕ → Bool → Type 0
IsUnheard standing past more ended = ((more ≡ []) × (ended ≡ past.ended)) ⊎ ((past.ended ≡ false) × (standing ≢ standings.Reading))

-- the head that it holds, and what is noted of that, are as they were
abbrev pub KeepsHead : Connection → Connection → Type 0
KeepsHead old new = (new.search ≡ old.search) × (new.is_verified ≡ old.is_verified)

-- what was added to a list
abbrev pub added : {A : Type 0} → List A → List A → List A
added old new = drop (length old) new

-- the second begins with the first
abbrev pub IsLonger : List ℕ → List ℕ → Type 0
IsLonger old new = new ≡ old ++ added old new

-- the moment, where a message has it
abbrev pub moment_if : Bool → ℕ → List ℕ
moment_if true moment = moment ∷ []
moment_if false moment = []

-- the turn that is asked for
abbrev pub turns_of : Need → List Turn
turns_of needs.More = []
turns_of (needs.Turn turn) = turn ∷ []
turns_of needs.Close = []

-- more bytes went through it, with these moments and turns
abbrev pub fed : Past → List ℕ → List ℕ → List Turn → Past
fed past bytes moments turns =
    record past { bytes = past.bytes ++ bytes; moments = past.moments ++ moments; turns = past.turns ++ turns }

-- with fewer of these bytes behind it the connection would still be reading, whether or not its next message had a moment by
-- then: nothing would be decided about that
abbrev pub StaysOpen : Settings → Past → List ℕ → List ℕ → Type 0
StaysOpen settings past bytes moments =
    (n : ℕ) → n < length bytes → (k : ℕ) × (out : List ℕ) × Writes standings.Reading settings (fed past (take n bytes) (take k moments) []) out

-- the waiting turn was answered, unless memory ran out at it
abbrev pub answered : Past → Result Answer NoMemory → Past
answered past (Ok answer) = record past { answers = past.answers ++ answer ∷ [] }
answered past (Err e) = past

-- an answer leads to the next message or closes, and want of memory ends the connection
abbrev pub IsAnsweredTo : Result Answer NoMemory → Standing → Type 0
IsAnsweredTo (Ok answer) standings.Reading = Unit {0}
IsAnsweredTo (Ok answer) standings.Over = Unit {0}
IsAnsweredTo (Err e) standings.Dead = Unit {0}
IsAnsweredTo answered standing = ⊥

-- what it needs next
abbrev pub Needs : Need → Standing → Type 0
Needs needs.More standings.Reading = Unit {0}
Needs (needs.Turn turn) standings.Waiting = Unit {0}
Needs needs.Close standings.Over = Unit {0}
Needs needs.Close standings.Dead = Unit {0}
Needs need standing = ⊥

-- what it needs behind an answer: more where it reads, and where no more is read that it is closed
abbrev pub NeedsNext : Next → Standing → Type 0
NeedsNext nexts.More standings.Reading = Unit {0}
NeedsNext nexts.Close standings.Over = Unit {0}
NeedsNext nexts.Close standings.Dead = Unit {0}
NeedsNext next standing = ⊥
