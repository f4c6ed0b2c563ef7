-- The headline: connections whose bytes come in pieces, and whose commands have their turns at one store, in any order of
-- events. A relation between all events, the history of the store, and all that each connection wrote.
use Rattle.std.specs.Prelude.{◌≡◌, ◌⊎◌, ◌<◌, ℕ, Bool, true, List, [], ◌∷◌, ◌++◌, length, map, slice_index_or}
use Rattle.std.specs.Global.{Vec}
use Rattle.s3_config.specs.Settings.{Settings}
use Rattle.s3_records.specs.Catalogue.{opening}
use Rattle.s3_store.specs.Steps.{opened}
use Rattle.s3_store.specs.Steps.{Standing as Base}
use Rattle.s3_machine.specs.History.{Legal}
use Rattle.s3_machine.specs.declared.turn.Turn.{Turn}
use Rattle.s3_machine.specs.Rules.{rules_of}
use Rattle.s3_journal.specs.Recorded.{Recorded, history_of, entries_of_seat}
use Rattle.s3_session.specs.Output.{Standing, is_dead}
use Rattle.s3_events.specs.declared.event.Event.{Event}
use Rattle.s3_connection.specs.Output.{answered_turn}
use Rattle.s3_simulation.specs.Events.{TurnAt, received, turns_given}
use Rattle.s3_simulation.specs.Timed.{TimedOutputs, Waits}

-- the moments of each connection, as they are given
abbrev pub each_moments : List (Vec ℕ) → List (List ℕ)
each_moments given = map (λ (moments : Vec ℕ). moments.items) given

-- the moments of a connection's messages; they are given for each connection
abbrev pub moments_of : ℕ → List (List ℕ) → List ℕ
moments_of connection moments = slice_index_or moments connection []

-- what a connection wrote
abbrev pub output_of : ℕ → List (List ℕ) → List ℕ
output_of connection outs = slice_index_or outs connection []

-- the settings, and the moments of each connection
module _ (settings : Settings) (moments : List (List ℕ)) where
  -- at this turn, after these entries, a command waits, which asks for this
  abbrev pub WaitsAt : List Recorded → TurnAt → Turn → Type 0
  WaitsAt done at turn =
      (at.connection < length moments)
      × Waits settings (moments_of at.connection moments) at.input (entries_of_seat at.connection done) turn

  -- at this turn there is this entry, of the command that waits
  abbrev pub HasEntry : List Recorded → TurnAt → Recorded → Type 0
  HasEntry done at r = (r.seat ≡ at.connection) × WaitsAt done at (answered_turn r.entry)

  -- and the connections in which memory ran out
  module _ (is_lost : ℕ → Bool) where
    -- at this turn there is no entry: no command waits, or memory has run out in the connection, which has no entry from then on
    abbrev pub HasNoEntry : List Recorded → TurnAt → List Recorded → Type 0
    HasNoEntry done at later =
        ((turn : Turn) → ¬ (WaitsAt done at turn))
        ⊎ ((is_lost at.connection ≡ true) × (entries_of_seat at.connection later ≡ []))

    -- Turns are taken, after some entries: the later entries are, in their order, those of the turns at which a command
    -- waits, and there are no others.
    abbrev pub AreTaken : List Recorded → List TurnAt → List Recorded → Type 0
    AreTaken done [] later = later ≡ []
    AreTaken done (at ∷ turns) later =
        (HasNoEntry done at later × AreTaken done turns later)
        ⊎ ((r : Recorded) × (rest : List Recorded) × (later ≡ r ∷ rest) × HasEntry done at r × AreTaken (done ++ r ∷ []) turns rest)

-- A run over a store that stood so: the entries are a legal history from there; they are those of the turns at which a
-- command waited, in the order of the turns; and each connection wrote the output of what it received, its commands
-- answered as its entries say.
pub record RunsFrom (base : Base) (settings : Settings) (moments : List (List ℕ)) (happened : List Event) (outs : List (List ℕ)) (entries : List Recorded) : Type 0 where
  pub standing : ℕ → Standing
  pub waiting : ℕ → List Turn
  pub legal : Legal (rules_of settings) base.state base.number (history_of entries)
  pub taken : AreTaken settings moments (λ c. is_dead (standing c)) [] (turns_given happened) entries
  pub outputs : (c : ℕ) → c < length moments
      → TimedOutputs (standing c) settings (moments_of c moments) (received c happened) (entries_of_seat c entries) (waiting c) (output_of c outs)
  pub each : length outs ≡ length moments

-- A run: one over a store with the opening buckets, and nothing else.
abbrev pub Runs : Settings → List (List ℕ) → List Event → List (List ℕ) → List Recorded → Type 0
Runs settings moments happened outs entries = RunsFrom (opened (opening settings.buckets)) settings moments happened outs entries
