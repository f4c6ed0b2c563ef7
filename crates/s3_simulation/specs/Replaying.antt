-- A connection over a store of its own, whose messages all have one moment, and what it has taken.
-- `HasTaken` is what the clauses of a replay carry along. What it comes to is said where the replay ends: the output of the
-- whole connection (`ReplaysFrom`). So its inside need not be believed.
use Rattle.std.specs.Prelude.{◌≡◌, ℕ, true, false, List, [], ◌∷◌, None}
use Rattle.std.specs.List.{AllByRecursion}
use Rattle.s3_config.specs.Settings.{Settings}
use Rattle.s3_records.specs.Catalogue.{opening}
use Rattle.s3_store.specs.Steps.{opened}
use Rattle.s3_store.specs.Steps.{Standing as Base}
use Rattle.s3_machine.specs.History.{Legal}
use Rattle.s3_journal.specs.RecordedStore.{Journal}
use Rattle.s3_journal.specs.Recorded.{history_of}
use Rattle.s3_session.specs.Output.{Past, Standing, Writes, is_waiting}
use Rattle.s3_session.specs.Replay.{Replays, entries_of}
use Rattle.s3_simulation.specs.Played.{Playing, Plays, turn_of}
use Rattle.s3_machine.specs.Rules.{rules_of}

-- The output of a whole connection over a store that stood so, all of whose messages have one moment: the sound messages at the
-- front of its bytes are answered in their order by a legal history from there. All commands had their turns, up to the end or to
-- the message at which memory ran out.
pub record ReplaysFrom (base : Base) (settings : Settings) (moment : ℕ) (bytes out : List ℕ) : Type 0 where
  pub standing : Standing
  pub answered : is_waiting standing ≡ false
  pub past : Past
  pub came : past.bytes ≡ bytes
  pub ended : past.ended ≡ true
  pub moments : AllByRecursion (λ (m : ℕ). m ≡ moment) past.moments
  pub writes : Writes standing settings past out
  pub legal : Legal (rules_of settings) base.state base.number (entries_of past.turns past.answers)

-- over a store with the opening buckets, and nothing else, it is what a replay writes
abbrev pub OpenedReplays : Type 0
OpenedReplays =
    (settings : Settings) (moment : ℕ) (bytes out : List ℕ)
    → ReplaysFrom (opened (opening settings.buckets)) settings moment bytes out → Replays settings moment bytes out

-- a replay: the settings, the connection, and its recorded store
pub record Replaying : Type 0 where
  pub settings : Settings
  pub played : Playing
  pub recorded_store : Journal

-- these bytes came, and their end did not: the commands were answered by its recorded store, which was opened with a store that
-- stood so
pub record HasCome (replay : Replaying) (base : Base) (settings : Settings) (moment : ℕ) (bytes : List ℕ) : Type 0 where
  pub under : replay.settings ≡ settings
  pub plays : Plays replay.played settings (moment ∷ []) (record { bytes = bytes; ended = false }) (history_of replay.recorded_store.entries)
  pub rules : replay.recorded_store.rules ≡ rules_of settings
  pub opens : replay.recorded_store.opening ≡ base

-- it has taken these bytes, all of whose messages have one moment: they came, and no command waits
abbrev pub HasTaken : Replaying → Base → Settings → ℕ → List ℕ → Type 0
HasTaken replay base settings moment bytes = HasCome replay base settings moment bytes × (turn_of replay.played ≡ None)
