-- What the connections of a world show, each by its number: what they wrote, how they stand, and the turns that wait.
use Rattle.std.specs.Prelude.{ℕ, List, map, Option, Some, None, option_and_then, option_map, unwrap_or}
use Rattle.std.specs.List.{slice_get}
use Rattle.s3_machine.specs.declared.turn.Turn.{Turn}
use Rattle.s3_session.specs.Output.{Standing, Reading}
use Rattle.s3_connection.specs.declared.stage.Wants.{Wants}
use Rattle.s3_connection.specs.declared.stage.Wants.TheVariants as wants
use Rattle.s3_connection.specs.Connection.{wants_of}
use Rattle.s3_simulation.specs.Played.{Playing, standing_of, turn_of, written_by}

abbrev pub standing_in : Option Playing → Standing
standing_in None = Reading
standing_in (Some b) = standing_of b

-- how a connection stands; as if nothing had come where there is none of this number
abbrev pub standing_at : List Playing → ℕ → Standing
standing_at connections c = standing_in (slice_get connections c)

-- the turn that waits in a connection, if one does
abbrev pub waiting_at : List Playing → ℕ → Option Turn
waiting_at connections c = option_and_then turn_of (slice_get connections c)

-- what a connection wants; bytes where there is none of this number
abbrev pub wanted_at : List Playing → ℕ → Wants
wanted_at connections c = unwrap_or (option_map (λ (b : Playing). wants_of b.connection) (slice_get connections c)) wants.Input

-- what the connections wrote, in the order of their numbers
abbrev pub written_by_all : List Playing → List (List ℕ)
written_by_all connections = map written_by connections
