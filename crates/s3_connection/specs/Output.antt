-- What a connection writes, by what it received, the moments of its messages, and the entries of its commands.
use Rattle.std.specs.Prelude.{◌≡◌, ℕ, Bool, false, List, [], ◌∷◌, ◌++◌, map}
use mathlib.Core.List.{IsPrefix}
use Rattle.s3_config.specs.Settings.{Settings}
use Rattle.s3_machine.specs.History.{Entry}
use Rattle.s3_machine.specs.declared.command.Answer.{Answer}
use Rattle.s3_machine.specs.declared.turn.Turn.{Turn}
use Rattle.s3_session.specs.Output.{Past, Standing, Writes, is_dead}
use Rattle.s3_session.specs.Output as standings

-- what a connection received: its bytes, and whether they have ended
pub record Input : Type 0 where
  pub bytes : List ℕ
  pub ended : Bool

-- the turn that an entry answers
abbrev pub answered_turn : Entry → Turn
answered_turn e = record { command = e.command; moment = e.moment }

abbrev pub answer_of : Entry → Answer
answer_of e = e.answer

-- what went through a connection with these bytes, ended or not, whose messages had these moments, whose commands had these
-- entries, and of which these turns wait
abbrev pub past_of : List ℕ → Bool → List ℕ → List Entry → List Turn → Past
past_of bytes ended moments entries waiting = record {
  bytes = bytes;
  ended = ended;
  moments = moments;
  turns = map answered_turn entries ++ waiting;
  answers = map answer_of entries;
}

-- one turn waits where a command does, none where the connection reads or is over, and any where memory ran out
abbrev pub HasWaiting : Standing → List Turn → Type 0
HasWaiting standings.Reading turns = turns ≡ []
HasWaiting standings.Waiting turns = (turn : Turn) × (turns ≡ turn ∷ [])
HasWaiting standings.Over turns = turns ≡ []
HasWaiting standings.Dead turns = Unit {0}

-- The output of a connection that received this, whose messages had these moments: the commands of the entries are those of
-- its first sound messages, which are answered so; and it stands so behind them, with these turns waiting.
pub record Outputs (standing : Standing) (settings : Settings) (input : Input) (moments : List ℕ) (entries : List Entry) (waiting : List Turn) (out : List ℕ) : Type 0 where
  pub waits : HasWaiting standing waiting
  pub writes : Writes standing settings (past_of input.bytes input.ended moments entries waiting) out

-- settings, input, entries and a list of moments, of which the messages had the first ones, leave one output, one standing, the
-- same moments and the same waiting turns, where memory does not run out
abbrev pub OneOutput : Type 0
OneOutput =
    (settings : Settings) (input : Input) (moments ms ns : List ℕ) (entries : List Entry) (p q : Standing) (w v : List Turn) (x y : List ℕ)
    → is_dead p ≡ false → is_dead q ≡ false → IsPrefix ms moments → IsPrefix ns moments
    → Outputs p settings input ms entries w x → Outputs q settings input ns entries v y
    → (x ≡ y) × (w ≡ v) × (ms ≡ ns) × (p ≡ q)
