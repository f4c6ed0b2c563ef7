-- The first fault of a connection: the first of its messages that is refused, and why.
use Rattle.std.specs.Prelude.{◌≡◌, ◌⊎◌, ℕ, min, Bool, false, List, [], ◌∷◌, ◌++◌, length, map, Some}
use mathlib.Core.List.{IsPrefix}
use Rattle.s3_config.specs.Settings.{Settings}
use Rattle.s3_terms.specs.declared.code.Code.{Code}
use Rattle.s3_session.specs.Decision.{Judges, refused_message}
use Rattle.s3_session.specs.Output.{Past, Standing, Over, Reading, Waiting, Writes, is_dead}
use Rattle.s3_session.specs.Walk.{Message, Walks}

-- the greatest number that is counted
abbrev pub most_counted : ℕ
most_counted = 18446744073709551615

-- Of the messages of a connection, which have the first of these moments, this one is the first that is refused, and this is the
-- code: those in front of it are sound, and no reply to one of them closes the connection. It is counted from 0, and every later one has the
-- greatest number that is counted.
pub record IsFault (settings : Settings) (bytes : List ℕ) (ended : Bool) (moments : List ℕ) (number : ℕ) (code : Code) : Type 0 where
  pub messages : List Message
  pub rest : List ℕ
  pub moment : ℕ
  pub head_only : Bool
  pub walk : Walks settings ended bytes messages (Some rest)
  pub judged : Judges settings moment ended rest (refused_message code head_only)
  pub given : IsPrefix (map (λ (m : Message). m.context.moment) messages ++ moment ∷ []) moments
  pub counted : number ≡ min (length messages) most_counted

-- none of those that have one of these moments is refused
abbrev pub HasNoFault : Settings → List ℕ → Bool → List ℕ → Type 0
HasNoFault settings bytes ended moments = (number : ℕ) (code : Code) → ¬ (IsFault settings bytes ended moments number code)

-- a connection has at most one first fault
abbrev pub OneFault : Type 0
OneFault =
    (settings : Settings) (bytes : List ℕ) (ended : Bool) (moments : List ℕ) (n m : ℕ) (c d : Code)
    → IsFault settings bytes ended moments n c → IsFault settings bytes ended moments m d → (n ≡ m) × (c ≡ d)

-- and it stays that, whatever bytes follow
abbrev pub FaultsStay : Type 0
FaultsStay =
    (settings : Settings) (bytes more : List ℕ) (ended : Bool) (moments : List ℕ) (number : ℕ) (code : Code)
    → IsFault settings bytes false moments number code → IsFault settings (bytes ++ more) ended moments number code

-- and nothing behind it counts: a connection in which memory did not run out has written, with more bytes behind those in which the
-- message is refused, ended or not, what it would have written of these alone
abbrev pub FaultsEnd : Type 0
FaultsEnd =
    (settings : Settings) (standing : Standing) (past : Past) (out bytes more moments : List ℕ) (number : ℕ) (code : Code)
    → IsFault settings bytes false moments number code
    → is_dead standing ≡ false → past.bytes ≡ bytes ++ more → IsPrefix past.moments moments
    → Writes standing settings past out → Writes standing settings (record past { bytes = bytes; ended = false }) out

-- Some bytes are whole sound messages, and the message behind them, at the front of more bytes, is refused. They have the first of
-- these moments.
pub record IsRefusedBehind (settings : Settings) (ended : Bool) (bytes more moments : List ℕ) : Type 0 where
  pub messages : List Message
  pub moment : ℕ
  pub code : Code
  pub head_only : Bool
  pub sound : Walks settings false bytes messages (Some [])
  pub refused : Judges settings moment ended more (refused_message code head_only)
  pub given : IsPrefix (map (λ (m : Message). m.context.moment) messages ++ moment ∷ []) moments

-- Nor does the refused message itself count for its commands: without it, and without all behind it, the same commands wait and were
-- answered, and where its refusal was written, the connection reads on.
abbrev pub RefusedIsNothing : Type 0
RefusedIsNothing =
    (settings : Settings) (standing : Standing) (past : Past) (out bytes more moments : List ℕ)
    → IsRefusedBehind settings past.ended bytes more moments
    → is_dead standing ≡ false → past.bytes ≡ bytes ++ more → IsPrefix past.moments moments
    → Writes standing settings past out
    → ((standing ≡ Waiting) × Writes Waiting settings (record past { bytes = bytes; ended = false }) out)
    ⊎ ((standing ≡ Over)
    × (fewer : List ℕ)
    × (written : List ℕ)
    × IsPrefix fewer past.moments
    × Writes Reading settings (record past { bytes = bytes; ended = false; moments = fewer }) written)
