-- How a reader of a body stands after all bytes so far.
-- `Stands` is what the clauses of the reader carry along. What it comes to is a law, `bodies_are_judged`: the verdict on these
-- bytes. So its inside need not be believed.
use Rattle.std.specs.Prelude.{◌≡◌, ℕ, ◌-◌, Bool, true, false, min, List, [], ◌++◌, length, Result, Ok, Err, ⊤}
use Rattle.s3_terms.specs.declared.code.Code.{Code}
use Rattle.s3_http_heads.specs.declared.body_length.BodyFraming.{BodyFraming}
use Rattle.s3_http_heads.specs.declared.body_length.BodyFraming.TheVariants as framings
use Rattle.s3_aws_chunked.specs.Verdict.{Verdict}
use Rattle.s3_payloads.specs.Outcome.{EndedTo, FedTo}
use Rattle.s3_payloads.specs.Reader as payloads
use Rattle.s3_payloads.specs.declared.reader.PayloadReader.{PayloadReader}
use Rattle.s3_framed_bodies.specs.Coded.{CodedFailed, CodedPassed, CodedStands, coded_taken, coded_verdict}
use Rattle.s3_framed_bodies.specs.Framed.{FramedBody, announced_with, size_in}
use Rattle.s3_framed_bodies.specs.declared.coded.CodedReader.{CodedReader}
use Rattle.s3_framed_bodies.specs.declared.reader.BodyReader.{BodyReader}
use Rattle.s3_framed_bodies.specs.declared.reader.Kind.{Kind}
use Rattle.s3_framed_bodies.specs.declared.reader.Kind.TheVariants.{Sized, Coded}

abbrev pub SizedFor : BodyFraming → PayloadReader → FramedBody → List ℕ → Bool → Type 0
SizedFor (framings.Sized size) reader body bytes ended =
    payloads.Stands reader (announced_with body.form body.proved size) bytes ended
SizedFor (framings.Coded limit decoded) reader body bytes ended = ⊥

abbrev pub CodedFor : BodyFraming → CodedReader → FramedBody → List ℕ → Bool → Type 0
CodedFor (framings.Sized size) reader body bytes ended = ⊥
CodedFor (framings.Coded limit decoded) reader body bytes ended = CodedStands reader body limit decoded bytes ended

abbrev pub KindStands : Kind → FramedBody → List ℕ → Bool → Type 0
KindStands (Sized reader) body bytes ended = SizedFor body.framing reader body bytes ended
KindStands (Coded reader) body bytes ended = CodedFor body.framing reader body bytes ended

-- after these bytes of a body that was announced so, and the end of the input where it has ended, the reader stands there;
-- memory never ran out
abbrev pub Stands : BodyReader → FramedBody → List ℕ → Bool → Type 0
Stands reader body bytes ended = KindStands reader.kind body bytes ended

-- a reader that has begun stands before all bytes of what was announced; none begins where something is wrong with that, and
-- this is what
abbrev pub Begins : Result FramedBody Code → Result BodyReader Code → Type 0
Begins rule (Ok reader) = (body : FramedBody) × (rule ≡ Ok body) × Stands reader body [] false
Begins rule (Err code) = rule ≡ Err code

abbrev pub kind_verdict : Kind → Verdict
kind_verdict (Sized reader) = payloads.verdict_of reader
kind_verdict (Coded reader) = coded_verdict reader

-- what the reader says of its body
abbrev pub verdict_of : BodyReader → Verdict
verdict_of reader = kind_verdict reader.kind

abbrev pub KindFailed : Kind → Code → Type 0
KindFailed (Sized reader) code = payloads.HasFailed reader code
KindFailed (Coded reader) code = CodedFailed reader code

-- the reader has refused with this code
abbrev pub HasFailed : BodyReader → Code → Type 0
HasFailed reader code = KindFailed reader.kind code

abbrev pub KindPassed : Kind → Type 0
KindPassed (Sized reader) = payloads.HasPassed reader
KindPassed (Coded reader) = CodedPassed reader

-- the reader has read a whole body, with nothing wrong
abbrev pub HasPassed : BodyReader → Type 0
HasPassed reader = KindPassed reader.kind

abbrev pub kind_taken : Kind → ℕ
kind_taken (Sized reader) = payloads.taken_of reader
kind_taken (Coded reader) = coded_taken reader

-- how many bytes of the body it has taken
abbrev pub taken_of : BodyReader → ℕ
taken_of reader = kind_taken reader.kind

-- how much of a piece is the body's, of which these bytes came before
abbrev pub part_in : BodyFraming → List ℕ → List ℕ → ℕ
part_in framing bytes piece = min (length piece) (size_in framing (bytes ++ piece) - length bytes)

-- what a piece brings behind these bytes
abbrev pub IsFed : FramedBody → List ℕ → List ℕ → Result ℕ Code → BodyReader → Type 0
IsFed body bytes piece result new =
    FedTo piece (part_in body.framing bytes piece) (Stands new body (bytes ++ piece) false) (HasFailed new) result

-- what the end of input brings behind them
abbrev pub IsEnded : FramedBody → List ℕ → Result ⊤ Code → BodyReader → Type 0
IsEnded body bytes result new = EndedTo (Stands new body bytes true) (HasFailed new) (HasPassed new) result
