-- What is decided about a message.
use Rattle.std.specs.Prelude.{Bool}
use Rattle.s3_terms.specs.declared.code.Code.{Code}
use Rattle.s3_machine.specs.declared.command.Command.{Command}
use Rattle.s3_replies.specs.declared.context.Context.{Context}

-- nothing yet, as more bytes are needed; that it is refused with this code, which ends the connection (and whether it is
-- a HEAD; a head that could not be read counts as none); or that it is sound and asks for this
pub data Verdict : Type 0 where
  Open : Verdict
  Refused : Code → Bool → Verdict
  Sound : Context → Command → Verdict
