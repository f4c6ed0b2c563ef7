-- What a replay of one connection writes: the headline for one connection, as a relation on its bytes
-- and its output.
use Rattle.std.specs.Prelude.{◌≡◌, ℕ, true, false, List, [], ◌∷◌}
use Rattle.std.specs.List.{AllByRecursion}
use Rattle.s3_config.specs.Settings.{Settings}
use Rattle.s3_records.specs.Catalogue.{opening}
use Rattle.s3_machine.specs.History.{Entry, Legal}
use Rattle.s3_machine.specs.declared.command.Answer.{Answer}
use Rattle.s3_machine.specs.declared.turn.Turn.{Turn}
use Rattle.s3_machine.specs.Rules.{rules_of}
use Rattle.s3_session.specs.Output.{Past, Standing, Writes, is_dead, is_waiting}

-- the entries of the history that turns and their answers make
abbrev pub entries_of : List Turn → List Answer → List Entry
entries_of [] answers = []
entries_of (turn ∷ turns) [] = []
entries_of (turn ∷ turns) (answer ∷ answers) =
    record { command = turn.command; moment = turn.moment; answer = answer } ∷ entries_of turns answers

-- The output of a whole connection, all of whose messages have one moment: the sound messages at the front of its bytes
-- are answered in their order by a legal history of the store from its opening state.
pub record ReplaysAs (standing : Standing) (settings : Settings) (moment : ℕ) (bytes out : List ℕ) : Type 0 where
  pub past : Past
  pub came : past.bytes ≡ bytes
  pub ended : past.ended ≡ true
  pub moments : AllByRecursion (λ (m : ℕ). m ≡ moment) past.moments
  pub writes : Writes standing settings past out
  pub legal : Legal (rules_of settings) (opening settings.buckets) 0 (entries_of past.turns past.answers)

-- all commands had their turns, up to the end or to the message at which memory ran out
abbrev pub Replays : Settings → ℕ → List ℕ → List ℕ → Type 0
Replays settings moment bytes out = (standing : Standing) × (is_waiting standing ≡ false) × ReplaysAs standing settings moment bytes out

-- the same, and memory did not run out
abbrev pub LiveReplays : Settings → ℕ → List ℕ → List ℕ → Type 0
LiveReplays settings moment bytes out = (replay : Replays settings moment bytes out) × (is_dead replay.0 ≡ false)
