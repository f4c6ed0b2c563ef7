-- The messages of a connection, one after another.
use Rattle.std.specs.Prelude.{◌≡◌, ℕ, Bool, MatchBool, List, [], ◌∷◌, Option, Some, None}
use Rattle.s3_config.specs.Settings.{Settings}
use Rattle.s3_machine.specs.declared.command.Command.{Command}
use Rattle.s3_replies.specs.declared.context.Context.{Context}
use Rattle.s3_session.specs.Verdict as verdicts
use Rattle.s3_session.specs.Decision.{Judges}
use Rattle.s3_session.specs.Invitation.{Invites}

-- a sound message: what its reply takes from it, what it asks for, and what is written before its body is read
pub record Message : Type 0 where
  pub context : Context
  pub command : Command
  pub invitation : List ℕ

-- ended says that no more bytes come
module _ (settings : Settings) (ended : Bool) where
  -- the sound messages, each at its moment, stand at the front of the bytes, and behind them this is left: some bytes,
  -- or nothing that is read, where the reply to the last of them closes the connection
  abbrev pub Walks : List ℕ → List Message → Option (List ℕ) → Type 0
  Walks bytes [] left = left ≡ Some bytes
  Walks bytes (message ∷ messages) left =
      (rest : List ℕ)
      × Judges settings message.context.moment ended bytes (verdicts.Sound message.context message.command, rest)
      × Invites settings message.context.moment bytes message.invitation
      × MatchBool message.context.closes
      ((messages ≡ []) × (left ≡ None))
      (Walks rest messages left)
