-- How a connection stands after all that went through it.
-- `Holds` is what the clauses of a connection carry along. What it comes to is a law, `connections_write`: its output. So its
-- inside need not be believed. A reader believes the laws at the end; the others serve `Holds` and the clauses of private
-- functions alone.
use Rattle.std.specs.Prelude.{◌≡◌, ℕ, Bool, true, false, List, [], ◌∷◌, ◌++◌}
use Rattle.s3_config.specs.Settings.{Settings}
use Rattle.s3_machine.specs.History.{Entry}
use Rattle.s3_machine.specs.declared.turn.Turn.{Turn}
use Rattle.s3_session.specs.Session as sessions
use Rattle.s3_session.specs.Session.{Connection}
use Rattle.s3_session.specs.Stands.{Stands}
use Rattle.s3_connection.specs.declared.stage.Stage.{Stage}
use Rattle.s3_connection.specs.declared.stage.Stage.TheVariants as stages
use Rattle.s3_connection.specs.Connection.{Connected, IsFit, is_answered_at, standing_of, unsent_of}
use Rattle.s3_connection.specs.Output.{HasWaiting, Input, Outputs, past_of}

-- the turns that wait are the one that the stage knows
abbrev pub IsTurn : Stage → List Turn → Type 0
IsTurn (stages.Waiting turn) turns = turns ≡ turn ∷ []
IsTurn (stages.HandedOut turn) turns = turns ≡ turn.value ∷ []
IsTurn _ turns = Unit {0}

-- the bytes behind those that went through the session, by whether that heard of the end: none where it reads, those that are
-- kept where a command waits or was answered, and any where no more is read, unless the end was told
abbrev pub IsBehind : Stage → Bool → List ℕ → List ℕ → Bool → Type 0
IsBehind stages.Reading told kept behind ended = behind ≡ []
IsBehind stages.Done told kept behind ended = told ≡ true → (behind ≡ []) × (ended ≡ true)
IsBehind _ told kept behind ended = behind ≡ kept

-- it received this, its messages had these moments, the commands of its entries were answered, and so much is sent
pub record Holds (c : Connected) (settings : Settings) (input : Input) (moments : List ℕ) (entries : List Entry) (sent : List ℕ) : Type 0 where
  pub taken : List ℕ
  pub behind : List ℕ
  pub told : Bool
  pub waiting : List Turn
  pub stands : Stands c.session settings (past_of taken told moments entries waiting) sent
  pub fit : IsFit c.stage c.session c.kept c.is_ended
  pub waits : HasWaiting (standing_of c) waiting
  pub turn : IsTurn c.stage waiting
  pub came : input.bytes ≡ taken ++ behind
  pub ended : input.ended ≡ c.is_ended
  pub left : IsBehind c.stage told c.kept behind input.ended

-- what a session made of some bytes behind those that it had taken
pub record Took (session : Connection) (kept : List ℕ) (stage : Stage) (settings : Settings) (taken offered moments : List ℕ) (entries : List Entry) (sent : List ℕ) : Type 0 where
  pub more : List ℕ
  pub behind : List ℕ
  pub waiting : List Turn
  pub stands : Stands session settings (past_of (taken ++ more) false moments entries waiting) sent
  pub waits : HasWaiting (sessions.standing_of session) waiting
  pub turn : IsTurn stage waiting
  pub offers : offered ≡ more ++ behind
  pub left : IsBehind stage false kept behind false

-- What a connection that holds this wrote, sent or not, is its output: for all that it received, unless a turn was answered and
-- it has still to go on; and for what it has taken of that, always.
pub record HasWritten (c : Connected) (settings : Settings) (input : Input) (moments : List ℕ) (entries : List Entry) (out : List ℕ) : Type 0 where
  pub taken : List ℕ
  pub behind : List ℕ
  pub told : Bool
  pub waiting : List Turn
  pub came : input.bytes ≡ taken ++ behind
  pub ended : told ≡ true → (behind ≡ []) × (input.ended ≡ true)
  pub output : Outputs (standing_of c) settings (record { bytes = taken; ended = told }) moments entries waiting out
  pub whole : is_answered_at c.stage ≡ false → Outputs (standing_of c) settings input moments entries waiting out

abbrev pub ConnectionsWrite : Type 0
ConnectionsWrite =
    (c : Connected) (settings : Settings) (input : Input) (moments : List ℕ) (entries : List Entry) (sent : List ℕ)
    → Holds c settings input moments entries sent
    → (written : HasWritten c settings input moments entries (sent ++ unsent_of c)) × IsTurn c.stage written.waiting
