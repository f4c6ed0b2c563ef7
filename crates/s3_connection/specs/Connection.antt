-- A connection as those see it who hold it. How it stands after all that went through it is another file's (`Holds`).
use Rattle.std.specs.Prelude.{◌≡◌, ℕ, Bool, true, false, if◌then◌else◌, List, [], ◌∷◌, ◌++◌, Option, Some, None, Result, Ok, Err}
use Rattle.s3_terms.specs.declared.memory.NoMemory.{NoMemory}
use Rattle.s3_machine.specs.History.{Entry}
use Rattle.s3_machine.specs.declared.command.Answer.{Answer}
use Rattle.s3_machine.specs.declared.turn.Turn.{Turn}
use Rattle.s3_session.specs.Output.{Standing, is_closed, is_waiting}
use Rattle.s3_session.specs.Output as standings
use Rattle.s3_session.specs.Session as sessions
use Rattle.s3_session.specs.Session.{Connection}
use Rattle.s3_connection.specs.declared.stage.Stage.{Stage}
use Rattle.s3_connection.specs.declared.stage.Stage.TheVariants as stages
use Rattle.s3_connection.specs.declared.stage.Wants.{Wants}
use Rattle.s3_connection.specs.declared.stage.Wants.TheVariants as wants
use Rattle.s3_connection.specs.Output.{Input}

-- a connection: its session, the bytes that came and were not taken, what it does next, and whether its end came
pub record Connected : Type 0 where
  pub session : Connection
  pub kept : List ℕ
  pub stage : Stage
  pub is_ended : Bool

-- how it stands behind the messages that it has answered
abbrev pub standing_of : Connected → Standing
standing_of c = sessions.standing_of c.session

-- what it wrote and has not sent
abbrev pub unsent_of : Connected → List ℕ
unsent_of c = sessions.unsent_of c.session

abbrev pub is_reading_at : Stage → Bool
is_reading_at stages.Reading = true
is_reading_at _ = false

abbrev pub has_turn_at : Stage → Bool
has_turn_at (stages.Waiting turn) = true
has_turn_at _ = false

abbrev pub is_answered_at : Stage → Bool
is_answered_at stages.Answered = true
is_answered_at _ = false

abbrev pub wants_at : Stage → Wants
wants_at stages.Reading = wants.Input
wants_at stages.Answered = wants.ToGoOn
wants_at stages.Done = wants.Nothing
wants_at _ = wants.Answer

-- what it wants, once all that it wrote is out
abbrev pub wants_of : Connected → Wants
wants_of c = wants_at c.stage

abbrev pub turn_at : Stage → Option Turn
turn_at (stages.Waiting turn) = Some turn
turn_at _ = None

-- the turn that waits and was not taken
abbrev pub turn_of : Connected → Option Turn
turn_of c = turn_at c.stage

abbrev pub taken_at : Stage → Option Turn
taken_at (stages.HandedOut turn) = Some turn.value
taken_at _ = None

-- the turn that was taken, and has no answer yet
abbrev pub taken_of : Connected → Option Turn
taken_of c = taken_at c.stage

-- nothing came
abbrev pub nothing_received : Input
nothing_received = record { bytes = []; ended = false }

-- and then this piece, which nobody hears of where the end came before
abbrev pub received : Input → List ℕ → Input
received input piece = if input.ended then input else record input { bytes = input.bytes ++ piece }

-- the entries, with that of a turn that was answered
abbrev pub entries_with : List Entry → Turn → Result Answer NoMemory → List Entry
entries_with entries turn (Ok answer) = entries ++ record { command = turn.command; moment = turn.moment; answer = answer } ∷ []
entries_with entries turn (Err e) = entries

-- what a connection does next fits how its session stands, what it keeps, and whether its end came
abbrev pub IsFit : Stage → Connection → List ℕ → Bool → Type 0
IsFit stages.Reading session kept ended =
    (sessions.standing_of session ≡ standings.Reading) × (session.is_ended ≡ false) × (kept ≡ []) × (ended ≡ false)
IsFit (stages.Waiting turn) session kept ended = (sessions.standing_of session ≡ standings.Waiting) × (session.is_ended ≡ false)
IsFit (stages.HandedOut turn) session kept ended = (sessions.standing_of session ≡ standings.Waiting) × (session.is_ended ≡ false)
IsFit stages.Answered session kept ended = (sessions.standing_of session ≡ standings.Reading) × (session.is_ended ≡ false)
IsFit stages.Done session kept ended =
    (is_waiting (sessions.standing_of session) ≡ false)
    × (is_closed (sessions.standing_of session) ≡ false → session.is_ended ≡ true)
    × (kept ≡ [])

-- what a session is led to by bytes: no turn of it was taken, and it has not to go on behind an answer
abbrev pub IsNext : Stage → Type 0
IsNext stage = (is_answered_at stage ≡ false) × (taken_at stage ≡ None)
