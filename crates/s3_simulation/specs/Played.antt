-- A connection of a world, with the moments that its messages have still to get, as those see it who hold it, and what the clauses
-- of a world carry along of it. Nobody has to believe it.
use Rattle.std.specs.Prelude.{ℕ, List, [], Option}
use Rattle.s3_config.specs.Settings.{Settings}
use Rattle.s3_machine.specs.History.{Entry}
use Rattle.s3_machine.specs.declared.turn.Turn.{Turn}
use Rattle.s3_session.specs.Output.{Standing}
use Rattle.s3_connection.specs.Connection as connections
use Rattle.s3_connection.specs.Connection.{Connected, IsNext}
use Rattle.s3_connection.specs.Holds.{Holds}
use Rattle.s3_connection.specs.Output.{Input}
use Rattle.s3_simulation.specs.Moments.{HasHanded, handed}

-- a connection, and what hands out the moments that its messages have still to get
pub record Playing : Type 0 where
  pub connection : Connected
  pub moments : List ℕ

abbrev pub standing_of : Playing → Standing
standing_of p = connections.standing_of p.connection

-- what it wrote
abbrev pub written_by : Playing → List ℕ
written_by p = connections.unsent_of p.connection

-- the turn that waits, if one does
abbrev pub turn_of : Playing → Option Turn
turn_of p = connections.turn_of p.connection

-- it received this, its messages had the first moments of the list, and the commands of the entries were answered
pub record Carries (p : Playing) (settings : Settings) (moments : List ℕ) (input : Input) (entries : List Entry) : Type 0 where
  pub count : ℕ
  pub hands : HasHanded moments count p.moments
  pub holds : Holds p.connection settings input (handed moments count) entries []

-- the same, and nothing of it is under way: no turn of it was taken, and it has gone on behind its last answer
abbrev pub Plays : Playing → Settings → List ℕ → Input → List Entry → Type 0
Plays p settings moments input entries = Carries p settings moments input entries × IsNext p.connection.stage
