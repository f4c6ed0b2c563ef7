-- A connection of a world.
use Rattle.std.proofs.Common.{◌≡◌, ◌+◌, ◌≢◌, ℕ, Bool, true, false, Option, Some, None, List, [], ◌∷◌, ◌++◌, refl, sym, ap, subst, ◌∙◌, append-nil}
use Rattle.s3_config.specs.Settings.{Settings}
use Rattle.s3_machine.specs.History.{Entry}
use Rattle.s3_machine.specs.declared.turn.Turn.{Turn}
use Rattle.s3_session.specs.Output.{Standing, is_dead, is_waiting}
use Rattle.s3_session.specs.Output as standings
use Rattle.s3_session.specs.Session as sessions
use Rattle.s3_session.specs.Session.{Connection, moment_if}
use Rattle.s3_connection.specs.declared.stage.Stage.{Stage}
use Rattle.s3_connection.specs.declared.stage.Stage.TheVariants as stages
use Rattle.s3_connection.specs.declared.stage.Wants.TheVariants as wants
use Rattle.s3_connection.specs.Connection.{IsFit, IsNext, turn_at, wants_at}
use Rattle.s3_connection.specs.Holds.{ConnectionsWrite, Holds, IsTurn}
use Rattle.s3_connection.specs.Output.{Input, OneOutput}
use Rattle.s3_simulation.specs.Moments.{HasHanded, behind_if, handed, next_of}
use Rattle.s3_simulation.specs.Played.{Carries, Playing, Plays, standing_of, turn_of, written_by}
use Rattle.s3_simulation.specs.Timed.{TimedOutputs}
use Rattle.s3_simulation.proofs.MomentsLemmas.{begins, begins_too, handed_one}

-- a moment was handed out or not
pub handed_if : (moments : List ℕ) (count : ℕ) (has : Bool) (left : List ℕ) → HasHanded moments count left
    → (more : ℕ) × HasHanded moments more (behind_if has left) × (handed moments more ≡ handed moments count ++ moment_if has (next_of left))
handed_if moments count true left before = let one = handed_one moments count left before in (count + 1, one.0, one.1)
handed_if moments count false left before = (count, before, sym (append-nil (handed moments count)))

-- it plays on after a call in which a message may have had the next moment
pub plays_on : (p d : Playing) (settings : Settings) (moments : List ℕ) (input later : Input) (entries : List Entry) (has : Bool)
    → (h : Carries p settings moments input entries) → d.moments ≡ behind_if has p.moments
    → Holds d.connection settings later (handed moments h.count ++ moment_if has (next_of p.moments)) entries []
    → Carries d settings moments later entries
plays_on p d settings moments input later entries has h is holds =
    let n = handed_if moments h.count has p.moments h.hands in
    record {
      count = n.0;
      hands = subst (HasHanded moments n.0) (sym is) n.1;
      holds = subst (λ (ms : List ℕ). Holds d.connection settings later ms entries []) (sym n.2) holds;
    }

pub some_asked : (told asked : Option Turn) (turn : Turn) → told ≡ asked → told ≡ Some turn → asked ≢ None
some_asked told asked turn value is none = cc

-- what it wrote, where nothing of it is under way
pub plays_write : ConnectionsWrite → (p : Playing) (settings : Settings) (moments : List ℕ) (input : Input) (entries : List Entry)
    → Plays p settings moments input entries
    → (waiting : List Turn) × TimedOutputs (standing_of p) settings moments input entries waiting (written_by p) × IsTurn p.connection.stage waiting
plays_write write p settings moments input entries plays =
    let h = plays.0 in
    let w = write p.connection settings input (handed moments h.count) entries [] h.holds in
    (w.0.waiting, record { count = h.count; output = w.0.whole plays.1.0 }, w.1)

-- the turn that waits is the one
pub asks_one : (stage : Stage) (turn : Turn) (waiting : List Turn) → turn_at stage ≡ Some turn → IsTurn stage waiting → waiting ≡ turn ∷ []
asks_one (stages.Waiting asked) turn waiting is one = one ∙ ap (λ (t : Turn). t ∷ []) (cc)
asks_one _ turn waiting is one = absurd (cc)

pub is_standing : (standing : Standing) → is_waiting standing ≡ true → standing ≡ standings.Waiting
is_standing standings.Waiting waits = refl
is_standing _ waits = absurd (cc)

-- a command waits just where its turn does
waits_at : (stage : Stage) (session : Connection) (kept : List ℕ) (ended : Bool) → IsFit stage session kept ended → IsNext stage
    → ((turn : Turn) → turn_at stage ≡ Some turn → is_waiting (sessions.standing_of session) ≡ true)
    × (turn_at stage ≡ None → is_waiting (sessions.standing_of session) ≡ false)
waits_at stages.Reading session kept ended fit next = (λ turn is. absurd (cc), λ none. ap is_waiting fit.0)
waits_at (stages.Waiting asked) session kept ended fit next = (λ turn is. ap is_waiting fit.0, λ none. absurd (cc))
waits_at (stages.HandedOut asked) session kept ended fit next = (λ turn is. absurd (cc), λ none. absurd (let taken = next.1 in cc))
waits_at stages.Answered session kept ended fit next = (λ turn is. absurd (cc), λ none. ap is_waiting fit.0)
waits_at stages.Done session kept ended fit next = (λ turn is. absurd (cc), λ none. fit.0)

-- nothing is under way where it reads
pub reads_next : (stage : Stage) → wants_at stage ≡ wants.Input → IsNext stage
reads_next stages.Reading reads = (refl, refl)
reads_next _ reads = absurd (cc)

pub waits_for : (p : Playing) (settings : Settings) (moments : List ℕ) (input : Input) (entries : List Entry) → Plays p settings moments input entries
    → ((turn : Turn) → turn_of p ≡ Some turn → is_waiting (standing_of p) ≡ true) × (turn_of p ≡ None → is_waiting (standing_of p) ≡ false)
waits_for p settings moments input entries plays =
    waits_at p.connection.stage p.connection.session p.connection.kept p.connection.is_ended plays.0.holds.fit plays.1

-- settings, moments, input and entries leave one output, one standing and the same waiting turns, where memory does not run out
abbrev pub OneTimedOutput : Type 0
OneTimedOutput =
    (settings : Settings) (moments : List ℕ) (input : Input) (entries : List Entry) (p q : Standing) (w v : List Turn) (x y : List ℕ)
    → is_dead p ≡ false → is_dead q ≡ false
    → TimedOutputs p settings moments input entries w x → TimedOutputs q settings moments input entries v y
    → (x ≡ y) × (w ≡ v) × (p ≡ q)

pub timed_one : OneOutput → OneTimedOutput
timed_one one settings moments input entries p q w v x y live also a b =
    let same = one settings input (handed moments (a.count + b.count)) (handed moments a.count) (handed moments b.count) entries p q w v x y live also
    (begins a.count b.count moments) (begins_too a.count b.count moments) a.output b.output in
    (same.0, same.1, same.3)
