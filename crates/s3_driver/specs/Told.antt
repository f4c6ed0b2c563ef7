-- What comes of a message, as its line tells it: the status that its reply has, why that is a refusal, and the number
-- of the answer that it tells.
use Rattle.std.specs.Prelude.{◌≡◌, ℕ, Option, Some, None, Result, MatchResult}
use Rattle.s3_terms.specs.Code.{status_of}
use Rattle.s3_terms.specs.declared.code.Code.{Code}
use Rattle.s3_terms.specs.declared.code.Code.TheVariants.{InternalError, InvalidRange}
use Rattle.s3_terms.specs.declared.memory.NoMemory.{NoMemory}
use Rattle.s3_terms.specs.declared.status.Status.TheVariants as statuses
use Rattle.s3_conditions.specs.declared.conditions.Selection.TheVariants.{Outside}
use Rattle.s3_machine.specs.declared.command.Answer.{Answer}
use Rattle.s3_machine.specs.declared.command.Outcome.{Outcome}
use Rattle.s3_machine.specs.declared.command.Outcome.TheVariants as outcomes
use Rattle.s3_replies.specs.Replies.{HasStatus}
use Rattle.s3_driver.specs.declared.told.Told.{Told}

-- why the reply refuses, if it does: the machine did, or no byte of what was read is in the range that was asked for
abbrev pub code_in : Outcome → Option Code
code_in (outcomes.Refused code is_delete_marker) = Some code
code_in (outcomes.Got found Outside overrides) = Some InvalidRange
code_in (outcomes.OutOfRange size) = Some InvalidRange
code_in other = None

-- it was refused with this code
abbrev pub refused_with : Code → Told
refused_with code = record { status = status_of code; code = Some code; number = None }

-- it was answered with all that it asked for, by the answer of this number
abbrev pub answered : Option ℕ → Told
answered number = record { status = statuses.Ok; code = None; number = number }

-- the status of the reply to this answer, why it refuses, if it does, and the answer's number
pub record IsTold (answer : Answer) (t : Told) : Type 0 where
  pub status : HasStatus answer.outcome t.status
  pub code : t.code ≡ code_in answer.outcome
  pub number : t.number ≡ Some answer.number

-- the same, or that memory ran out
abbrev pub IsToldOf : Result Answer NoMemory → Told → Type 0
IsToldOf answered t = MatchResult answered (λ answer. IsTold answer t) (λ _. t ≡ refused_with InternalError)
