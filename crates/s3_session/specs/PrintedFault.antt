-- The refusal that is printed of a message, at the end of what its connection writes.
use Rattle.std.specs.Prelude.{◌≡◌, ◌⊎◌, ℕ, min, Bool, true, false, List, [], ◌∷◌, ◌++◌, length, Some, None}
use mathlib.Core.List.{IsPrefix}
use Rattle.s3_config.specs.Settings.{Settings}
use Rattle.s3_terms.specs.declared.code.Code.{Code}
use Rattle.s3_replies.specs.Replies.{PrintsRefusal}
use Rattle.s3_session.specs.Decision.{Judges, refused_message}
use Rattle.s3_session.specs.Fault.{IsFault, most_counted}
use Rattle.s3_session.specs.Invitation.{Invites}
use Rattle.s3_session.specs.Output.{Past, Serves, Standing, Over, Writes, is_dead, is_waiting}

-- All that was written ends with the printed refusal of the message of this number, with this code. In front of that are the
-- replies to as many messages, and what is written before the body of the refused one is read. Nothing is behind it. The number is
-- counted from 0, and every later message has the greatest one that is counted.
pub record EndsWithRefusal (settings : Settings) (past : Past) (out : List ℕ) (number : ℕ) (code : Code) : Type 0 where
  pub rest : List ℕ
  pub moment : ℕ
  pub head_only : Bool
  pub before : List ℕ
  pub text : List ℕ
  pub serves : Serves settings past out (Some rest) (moment ∷ []) [] (before ++ text)
  pub counted : number ≡ min (length serves.exchanges) most_counted
  pub judged : Judges settings moment past.ended rest (refused_message code head_only)
  pub invites : Invites settings moment rest before
  pub printed : PrintsRefusal settings.dialect code moment head_only text

-- The first fault of a connection is printed: as long as memory does not run out, no more is read, and what was written ends with
-- the refusal of that message. The moments may be more than its messages had so far; where a command waits, they are just those.
abbrev pub FaultsArePrinted : Type 0
FaultsArePrinted =
    (settings : Settings) (standing : Standing) (past : Past) (out moments : List ℕ) (number : ℕ) (code : Code)
    → IsFault settings past.bytes past.ended moments number code
    → is_dead standing ≡ false → IsPrefix past.moments moments → (is_waiting standing ≡ true → moments ≡ past.moments)
    → Writes standing settings past out → (standing ≡ Over) × EndsWithRefusal settings past out number code

-- and the refusal that is printed is the first fault
abbrev pub PrintedAreFaults : Type 0
PrintedAreFaults =
    (settings : Settings) (past : Past) (out : List ℕ) (number : ℕ) (code : Code)
    → EndsWithRefusal settings past out number code
    → Writes Over settings past out × IsFault settings past.bytes past.ended past.moments number code

-- Where no more is read, a connection has one of two ends: what was written ends with a reply that closes it, or with a refusal.
abbrev pub TwoEnds : Type 0
TwoEnds =
    (settings : Settings) (past : Past) (out : List ℕ) → Writes Over settings past out
    → Serves settings past out None [] [] [] ⊎ ((number : ℕ) × (code : Code) × EndsWithRefusal settings past out number code)
