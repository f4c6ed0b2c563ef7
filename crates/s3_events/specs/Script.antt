-- The script that event lines make, and why some lines make none.
use Rattle.std.specs.Prelude.{◌≡◌, ℕ, ◌+◌, ◌<◌, max, not, ◌==◌, if◌then◌else◌, List, [], ◌∷◌, length, map, filter, flat_map, get_or, take}
use Rattle.s3_text.specs.Lines.{IsFirstBadLine}
use Rattle.s3_events.specs.declared.event.Event.{Event}
use Rattle.s3_events.specs.declared.event.Event.TheVariants.{Piece, End, Turn}
use Rattle.s3_events.specs.declared.script.Script.{Script}
use Rattle.s3_events.specs.declared.error.EventsError.{EventsError}
use Rattle.s3_events.specs.declared.error.EventsError.TheVariants.{BadLine, OutOfMemory}
use Rattle.s3_events.specs.Lines.{Said, TheMoments, MoreBytes, TheEnd, ATurn, connection, are_moments, all_said, AreEventLines}

-- what a line says of which the event is made
abbrev pub said_of_event : Event → Said
said_of_event (Piece c bytes) = MoreBytes c bytes.items
said_of_event (End c) = TheEnd c
said_of_event (Turn c) = ATurn c

-- the connection to which an event happens
abbrev pub connection_of_event : Event → ℕ
connection_of_event event = connection (said_of_event event)

-- how many connections there are from 0 to the greatest of which something is said
abbrev pub connections : List Said → ℕ
connections [] = 0
connections (said ∷ all) = max (connection said + 1) (connections all)

-- the moments of a connection that one line says
abbrev pub moments_in : ℕ → Said → List ℕ
moments_in c (TheMoments d moments) = if d == c then moments else []
moments_in c said = []

-- those that all lines say
abbrev pub moments_said : ℕ → List Said → List ℕ
moments_said c all = flat_map (moments_in c) all

-- that which happens
abbrev pub happenings : List Said → List Said
happenings all = filter (λ said. not (are_moments said)) all

-- a script has all that is said: a list of moments for each connection up to the greatest, which is empty where none are
-- said, and the events in their order
pub record Has (script : Script) (all : List Said) : Type 0 where
  pub connections : length script.moments.items ≡ connections all
  pub moments : (c : ℕ) → get_or (map (λ list. list.items) script.moments.items) c [] ≡ moments_said c all
  pub events : map said_of_event script.events.items ≡ happenings all

-- the lines make the script
pub record IsScriptOf (lines : List (List ℕ)) (script : Script) : Type 0 where
  pub right : AreEventLines lines
  pub has : Has script (all_said lines)

-- there is a first line, and it is right: only a right line behind right ones asks for memory
pub record AsksRoom (lines : List (List ℕ)) : Type 0 where
  pub some : 0 < length lines
  pub right : AreEventLines (take 1 lines)

-- why lines make no script: the first bad one of them, or memory ran out
abbrev pub IsEventsFault : List (List ℕ) → EventsError → Type 0
IsEventsFault lines (BadLine number) = IsFirstBadLine AreEventLines lines number
IsEventsFault lines OutOfMemory = AsksRoom lines
