-- What a connection writes whose messages have the moments of a list.
use Rattle.std.specs.Prelude.{ℕ, List, [], ◌∷◌}
use Rattle.s3_config.specs.Settings.{Settings}
use Rattle.s3_machine.specs.History.{Entry}
use Rattle.s3_machine.specs.declared.turn.Turn.{Turn}
use Rattle.s3_session.specs.Output.{Standing}
use Rattle.s3_session.specs.Output as standings
use Rattle.s3_connection.specs.Output.{Input, Outputs}
use Rattle.s3_simulation.specs.Moments.{handed}

-- The output of a connection that received this, whose messages have the moments of a list: as many of them as it has messages
-- that were judged.
pub record TimedOutputs (standing : Standing) (settings : Settings) (moments : List ℕ) (input : Input) (entries : List Entry) (waiting : List Turn) (out : List ℕ) : Type 0 where
  pub count : ℕ
  pub output : Outputs standing settings input (handed moments count) entries waiting out

-- a command of it waits for this turn, as long as memory doesn't run out
abbrev pub Waits : Settings → List ℕ → Input → List Entry → Turn → Type 0
Waits settings moments input entries turn =
    (out : List ℕ) × TimedOutputs standings.Waiting settings moments input entries (turn ∷ []) out
