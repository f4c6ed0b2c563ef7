-- What events bring to each connection.
use Rattle.std.specs.Prelude.{ℕ, Bool, true, false, not, ◌==◌, List, [], ◌∷◌, ◌++◌, if◌then◌else◌}
use Rattle.std.specs.List.{flat_map, list_any, take_while}
use Rattle.s3_events.specs.declared.event.Event.{Event}
use Rattle.s3_events.specs.declared.event.Event.TheVariants as events
use Rattle.s3_connection.specs.Output.{Input}

-- the event says that no more bytes of a connection come
abbrev pub is_end : ℕ → Event → Bool
is_end connection (events.End c) = c == connection
is_end connection _ = false

-- the bytes that it brings to a connection
abbrev pub brought : ℕ → Event → List ℕ
brought connection (events.Piece c bytes) = if (c == connection) then bytes.items else []
brought connection _ = []

-- a list has elements
abbrev pub has_any : List ℕ → Bool
has_any [] = false
has_any (x ∷ xs) = true

-- the event brings bytes
abbrev pub brings_bytes : Event → Bool
brings_bytes (events.Piece c bytes) = has_any bytes.items
brings_bytes _ = false

-- what a connection has received after these events: its pieces joined, up to its end
abbrev pub received : ℕ → List Event → Input
received connection happened = record {
  bytes = flat_map (brought connection) (take_while (λ e. not (is_end connection e)) happened);
  ended = list_any (is_end connection) happened;
}

-- a turn: whose it is, and what that connection has received by then
pub record TurnAt : Type 0 where
  pub connection : ℕ
  pub input : Input

-- the turn that an event gives, after others
abbrev pub turn_given : List Event → Event → List TurnAt
turn_given before (events.Turn c) = record { connection = c; input = received c before } ∷ []
turn_given before _ = []

-- the turns that events give, after others
abbrev pub turns_given_after : List Event → List Event → List TurnAt
turns_given_after before [] = []
turns_given_after before (e ∷ happened) = turn_given before e ++ turns_given_after (before ++ e ∷ []) happened

-- the turns that events give, in their order
abbrev pub turns_given : List Event → List TurnAt
turns_given happened = turns_given_after [] happened
