-- What a contract sees of the header lines of a request: their names and their values, what they tell of the
-- body, and the head that they make.
-- Only clauses of private functions cite these, and nobody has to believe them.
use Rattle.std.specs.Prelude.{◌≡◌, ℕ, true, List, [], ◌++◌, map}
use Rattle.httparse.specs.Grammar.{RequestHead, print_request}
use Rattle.s3_http_heads.specs.Message.{IsMessage}
use Rattle.s3_http_heads.specs.Head.{parts_of}
use Rattle.s3_calendar.specs.Moment.{is_stamp}
use Rattle.s3_signing.specs.Accepted.{IsVerifiedWith}
use Rattle.s3_signer.specs.declared.line.Line.{Line}
use Rattle.s3_signer.specs.declared.signed.SignedLines.{SignedLines}
use Rattle.s3_signer.specs.declared.telling.Telling.{Telling}
use Rattle.s3_signer.specs.Request.{HeaderLine, IsReadyFor, ReadsBack, Told, authorization_of, given_lines, head_of, signed_head, unsigned_head}

abbrev pub pair : Line → List ℕ × List ℕ
pair line = (line.name.items, line.value.items)

abbrev pub pairs : List Line → List (List ℕ × List ℕ)
pairs lines = map pair lines

-- the head of these lines
abbrev pub head_with : List ℕ → List ℕ → List Line → RequestHead
head_with method target lines = head_of method target (pairs lines)

-- its text and this body are one message that says it
abbrev pub IsMessageOf : RequestHead → List ℕ → Type 0
IsMessageOf h body = IsMessage (print_request h ++ body) (parts_of h) body []

-- how the body is told
abbrev pub told_by : Telling → Told
told_by t = record { word = t.word.now; size = t.size; sized = t.sized; more = given_lines t.more.now }

-- the lines are all those of a request that tells its body so, and its authorization proves what it has to
pub record AreLinesOf (id secret region method target : List ℕ) (headers : List HeaderLine) (told : Told) (stamp : List ℕ) (signed : SignedLines) : Type 0 where
  pub head : head_with method target signed.lines.items ≡ signed_head id secret region method target headers told stamp
  pub value : signed.value.items ≡ authorization_of id secret region (unsigned_head method target headers told stamp) stamp
  pub verified : IsVerifiedWith id secret region (parts_of (unsigned_head method target headers told stamp)) stamp signed.value.items
  pub says : ReadsBack (unsigned_head method target headers told stamp)
  pub ready : IsReadyFor told stamp (parts_of (unsigned_head method target headers told stamp))
  pub stamped : is_stamp stamp ≡ true
